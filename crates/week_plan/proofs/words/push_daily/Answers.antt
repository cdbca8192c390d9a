use Rattle.week_plan.proofs.Chains.{three}
use Rattle.week_plan.proofs.words.push_daily.Goals as goal

pub returns : goal.returns
returns c = three _ _ _ _ _ _ _ c.in_ok-push_clock.ensures c.in_ok-push_dash.ensures c.in_ok-push_end.ensures
