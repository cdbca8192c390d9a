use Rattle.plan_core.proofs.Paths.{front_nodes}
use Rattle.plan_core.proofs.laws.fronts_are_nodes.Goals as goal

pub returns : goal.returns
returns c = front_nodes
