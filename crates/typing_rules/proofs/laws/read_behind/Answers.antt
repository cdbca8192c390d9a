use Rattle.typing_rules.proofs.Shift.{read_behind}
use Rattle.typing_rules.proofs.laws.read_behind.Goals as goal

pub returns : goal.returns
returns c = record { same = read_behind }
