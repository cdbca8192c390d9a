use Rattle.std.proofs.Common.{◌≡◌, ◌&&◌, false, map, take}
use Rattle.std.specs.List.{list_any, zip}
use Rattle.time_pred.specs.Predicates.{is_always}
use Rattle.time_pred.specs.View.{view_shared}
use Rattle.fallible_infer.specs.Infallible.{mark_at}
use Rattle.fallible_infer.proofs.nodes.some_always.Given as goal

abbrev pub invariant-loop-k : goal.invariant-loop-k
invariant-loop-k l = list_any (λ pair. is_always pair.0 && mark_at l.marks pair.1) (take l.k (zip (map view_shared l.preds) l.children)) ≡ false
