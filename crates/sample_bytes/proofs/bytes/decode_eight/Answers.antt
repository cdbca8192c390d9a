use Rattle.std.proofs.Common.{◌*◌, arith, ap, w8}
use Rattle.std.specs.Simd.Lanes.{chunk, put_chunk}
use Rattle.std.proofs.lemmas.Simd.{chunk-fits, length-chunk}
use Rattle.sample_bytes.proofs.Woven.{decoded_lanes}
use Rattle.sample_bytes.proofs.bytes.decode_eight.Goals as goal

pub returns : goal.returns
returns c =
    let long = length-chunk (2 * c.args.at) 16 c.args.bytes.now (omega (arith, c.requires.within.0, c.requires.within.1)) in
    ap (put_chunk c.args.at c.args.into.now) (decoded_lanes 8 (chunk (2 * c.args.at) 16 c.args.bytes.now) long (chunk-fits w8 (2 * c.args.at) 16 c.args.bytes.now c.type_inv.bytes))
