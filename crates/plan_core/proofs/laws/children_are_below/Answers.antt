use Rattle.plan_core.proofs.Paths.{child_below}
use Rattle.plan_core.proofs.laws.children_are_below.Goals as goal

pub returns : goal.returns
returns c = child_below
