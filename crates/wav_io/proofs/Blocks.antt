-- What is left of a body is whole blocks.
use Rattle.std.proofs.Common.{◌<◌, ℕ, ◌*◌, ◌/◌, Bool, true, false, List, length, arith}
use Rattle.std.proofs.lemmas.List.{length-take-le}
use Rattle.liq_base.specs.declared.memory.Kind.{Kind}
use Rattle.liq_base.specs.declared.memory.Kind.TheVariants.{Mono, Stereo}
use Rattle.wav_io.specs.Reading.{whole_blocks, AreBlocks}

pub are_blocks : (wide : Bool) (kind : Kind) (body : List ℕ) → 0 < length (whole_blocks wide kind body) → AreBlocks wide kind (whole_blocks wide kind body)
are_blocks false Mono body some =
    let size = length-take-le (length body / 2 * 2) body (omega arith) in
    record { count = length body / 2; some = omega arith; whole = omega arith }
are_blocks false Stereo body some =
    let size = length-take-le (length body / 4 * 4) body (omega arith) in
    record { count = length body / 4; some = omega arith; whole = omega arith }
are_blocks true Mono body some =
    let size = length-take-le (length body / 3 * 3) body (omega arith) in
    record { count = length body / 3; some = omega arith; whole = omega arith }
are_blocks true Stereo body some =
    let size = length-take-le (length body / 6 * 6) body (omega arith) in
    record { count = length body / 6; some = omega arith; whole = omega arith }
