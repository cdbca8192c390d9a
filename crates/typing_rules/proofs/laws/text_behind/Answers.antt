use Rattle.typing_rules.proofs.Shift.{text_comes, text_goes}
use Rattle.typing_rules.proofs.laws.text_behind.Goals as goal

pub returns : goal.returns
returns c = record { alone = text_comes; called = text_goes }
