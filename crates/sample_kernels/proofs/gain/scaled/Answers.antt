use Rattle.sample_kernels.proofs.Cuts.{scaled_computed}
use Rattle.sample_kernels.proofs.gain.scaled.Goals as goal

pub returns : goal.returns
returns c = scaled_computed c.from.result c.clamp.result c.args.sample c.args.millionths c.from.ensures c.clamp.ensures.value c.ranges.sample c.ranges.millionths c.requires.low c.requires.high
