use Rattle.week_plan.proofs.Chains.{four}
use Rattle.week_plan.proofs.words.push_clock.Goals as goal

pub returns : goal.returns
returns c = four _ _ _ _ _ _ _ _ _ c.in_ok-push_two.ensures c.in_ok-push_colon.ensures c.in_ok-push_two-2.ensures c.in_ok-push_seconds.ensures
