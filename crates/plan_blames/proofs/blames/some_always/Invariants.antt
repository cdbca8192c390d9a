use Rattle.std.proofs.Common.{◌≡◌, false, take, map}
use Rattle.std.specs.List.{list_any}
use Rattle.time_pred.specs.Predicates.{is_always}
use Rattle.time_pred.specs.View.{view_shared}
use Rattle.plan_blames.proofs.blames.some_always.Given as goal

abbrev pub invariant-loop-pred : goal.invariant-loop-pred
invariant-loop-pred l = list_any is_always (map view_shared (take l.pred-index l.preds)) ≡ false
