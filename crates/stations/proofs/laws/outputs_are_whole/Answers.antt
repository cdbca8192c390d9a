use Rattle.std.proofs.Common.{refl}
use Rattle.stations.proofs.Lengths.{output_long}
use Rattle.stations.proofs.laws.outputs_are_whole.Goals as goal

pub returns : goal.returns
returns c = record { bytes = λ station run wide node. refl; long = output_long }
