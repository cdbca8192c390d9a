use Rattle.op_cross.proofs.CrossLaws.{cross-many}
use Rattle.op_cross.proofs.laws.settled_in_time.Goals as goal

pub returns : goal.returns
returns c = record { many = λ overlap slots p long. cross-many overlap slots p long }
