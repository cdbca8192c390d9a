use Rattle.plan_core.proofs.Grown.{output_keeps}
use Rattle.plan_core.proofs.laws.an_output_keeps_plans.Goals as goal

pub returns : goal.returns
returns c = λ plan name node fallible wide w room there. output_keeps plan w name node fallible wide room there
