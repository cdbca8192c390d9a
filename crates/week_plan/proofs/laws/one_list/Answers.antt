use Rattle.week_plan.proofs.One.{one_list}
use Rattle.week_plan.proofs.laws.one_list.Goals as goal

pub returns : goal.returns
returns c = one_list
