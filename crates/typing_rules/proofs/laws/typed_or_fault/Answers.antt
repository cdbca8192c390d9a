use Rattle.typing_rules.proofs.TypedScripts.{typed_or_fault}
use Rattle.typing_rules.proofs.laws.typed_or_fault.Goals as goal

pub returns : goal.returns
returns c = record { without = typed_or_fault }
