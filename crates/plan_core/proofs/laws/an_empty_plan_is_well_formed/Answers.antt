use Rattle.plan_core.proofs.Grown.{empty_keeps}
use Rattle.plan_core.proofs.laws.an_empty_plan_is_well_formed.Goals as goal

pub returns : goal.returns
returns c = empty_keeps
