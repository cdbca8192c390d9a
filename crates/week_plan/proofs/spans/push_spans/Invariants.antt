use Rattle.std.proofs.Common.{◌-◌}
use Rattle.week_plan.specs.Tables.{is_told}
use Rattle.week_plan.proofs.Walks.{IsWalked}
use Rattle.week_plan.proofs.spans.push_spans.Given as goal

abbrev pub invariant-loop-at : goal.invariant-loop-at
invariant-loop-at l = IsWalked (is_told l.words) l.into.items l.since l.at

abbrev pub decreases-loop-at : goal.decreases-loop-at
decreases-loop-at l = 604800 - l.at
