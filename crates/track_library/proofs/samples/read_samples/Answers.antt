use Rattle.std.proofs.Common.{◌≡◌, ◌∙◌, ◌++◌, length, take, drop, arith, ap, sym}
use Rattle.std.proofs.Math.Seq.{take-append_seam}
use Rattle.frame_core.specs.Bytes.{samples_from}
use Rattle.track_library.proofs.Sound.{samples_front}
use Rattle.track_library.proofs.samples.read_samples.Goals as goal

pub returns : goal.returns
returns c =
    let made = c.decode.new.into in
    let behind = drop (length made) c.in_ok-samples.samples.items in
    let is : made ≡ samples_from c.args.blocks.now = c.decode.ensures ∙ ap samples_from c.split_at.ensures.front ∙ samples_front c.args.blocks.now in
    let long : length made ≡ c.in_ok-samples.samples.len = omega (arith, c.deref_mut.ensures.len, c.decode.auto.into) in
    record { samples = ap (λ n. take n (made ++ behind)) (sym long) ∙ take-append_seam made behind ∙ is }
