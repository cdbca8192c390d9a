use Rattle.std.proofs.Common.{◌≡◌, take, length}
use Rattle.std.specs.Prelude.{map}
use Rattle.time_pred.specs.View.{view_pred}
use Rattle.week_plan.proofs.same.+same.Given as goal

abbrev pub invariant-all_same-loop-k : goal.invariant-all_same-loop-k
invariant-all_same-loop-k l = record {
  size : length l.parts ≡ length l.others;
  same : map view_pred (take l.k l.parts) ≡ map view_pred (take l.k l.others);
}
