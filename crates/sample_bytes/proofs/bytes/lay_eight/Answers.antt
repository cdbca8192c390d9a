use Rattle.std.proofs.Common.{ap}
use Rattle.std.specs.Simd.Lanes.{put_chunk}
use Rattle.sample_bytes.proofs.Woven.{encoded_lanes}
use Rattle.sample_bytes.proofs.bytes.lay_eight.Goals as goal

pub returns : goal.returns
returns c = ap (put_chunk c.args.at c.args.into.now) (encoded_lanes 8 c.args.samples c.requires.long c.requires.fit)
