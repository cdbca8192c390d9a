use Rattle.typing_rules.proofs.TypedScripts.{first_typed}
use Rattle.typing_rules.proofs.OneFault.{shorter_typing}
use Rattle.typing_rules.proofs.laws.fewer_statements.Goals as goal

pub returns : goal.returns
returns c = record { first = first_typed; shorter = shorter_typing }
