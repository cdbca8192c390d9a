use Rattle.typing_rules.proofs.OneFault.{one_fault}
use Rattle.typing_rules.proofs.laws.one_fault.Goals as goal

pub returns : goal.returns
returns c = record { one = one_fault }
