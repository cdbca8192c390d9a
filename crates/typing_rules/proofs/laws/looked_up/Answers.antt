use Rattle.typing_rules.proofs.Reading.{same_target, same_kinds}
use Rattle.typing_rules.proofs.laws.looked_up.Goals as goal

pub returns : goal.returns
returns c = record { target = same_target; kinds = same_kinds }
