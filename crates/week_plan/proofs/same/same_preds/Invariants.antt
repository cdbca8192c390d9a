use Rattle.std.proofs.Common.{◌≡◌, take, length}
use Rattle.std.specs.Prelude.{map}
use Rattle.time_pred.specs.View.{view_shared}
use Rattle.week_plan.proofs.same.same_preds.Given as goal

abbrev pub invariant-loop-k : goal.invariant-loop-k
invariant-loop-k l = record {
  size : length l.preds ≡ length l.others;
  same : map view_shared (take l.k l.preds) ≡ map view_shared (take l.k l.others);
}
