use Rattle.op_cross.proofs.Longer.{track_goes_on}
use Rattle.op_cross.proofs.laws.track_goes_on.Goals as goal

pub returns : goal.returns
returns c = record { goes_on = λ overlap cells r more track inner full some. track_goes_on overlap cells r more track inner full some }
