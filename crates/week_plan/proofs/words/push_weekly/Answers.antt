use Rattle.week_plan.proofs.Chains.{four}
use Rattle.week_plan.proofs.words.push_weekly.Goals as goal

pub returns : goal.returns
returns c = four _ _ _ _ _ _ _ _ _ c.in_ok-push_begin.ensures c.in_ok-push_dash.ensures c.in_ok-push_end_day.ensures c.in_ok-push_end.ensures
