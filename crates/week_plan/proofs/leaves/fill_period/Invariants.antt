use Rattle.std.proofs.Common.{◌≤◌, ◌-◌, ◌*◌}
use Rattle.time_pred.specs.Predicates.{holds}
use Rattle.time_pred.specs.View.{view_pred}
use Rattle.week_plan.specs.Tables.{IsTable}
use Rattle.week_plan.proofs.Fillings.{IsFilled}
use Rattle.week_plan.proofs.leaves.fill_period.Given as goal

abbrev pub invariant-loop-at : goal.invariant-loop-at
invariant-loop-at l = record {
  within : l.at ≤ l.minutes * 60;
  table : IsTable l.words;
  filled : IsFilled (holds (view_pred l.pred)) l.words l.at;
}

abbrev pub decreases-loop-at : goal.decreases-loop-at
decreases-loop-at l = l.minutes * 60 - l.at
