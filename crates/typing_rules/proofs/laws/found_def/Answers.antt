use Rattle.typing_rules.proofs.Finds.{found}
use Rattle.typing_rules.proofs.laws.found_def.Goals as goal

pub returns : goal.returns
returns c = record { found = found }
