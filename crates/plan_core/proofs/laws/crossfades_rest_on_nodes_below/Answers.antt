use Rattle.plan_core.proofs.Counts.{count_at}
use Rattle.plan_core.proofs.laws.crossfades_rest_on_nodes_below.Goals as goal

pub returns : goal.returns
returns c = count_at
