use Rattle.typing_rules.proofs.Knot.{leads_into, defs_of_script}
use Rattle.typing_rules.proofs.laws.leads_to.Goals as goal

pub returns : goal.returns
returns c = record { leads = leads_into; defs = defs_of_script }
