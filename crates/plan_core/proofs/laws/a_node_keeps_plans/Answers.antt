use Rattle.plan_core.proofs.Grown.{node_keeps}
use Rattle.plan_core.proofs.laws.a_node_keeps_plans.Goals as goal

pub returns : goal.returns
returns c = λ plan node w room over none. node_keeps plan w node none room over
