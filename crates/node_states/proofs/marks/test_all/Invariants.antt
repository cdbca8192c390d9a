use Rattle.std.proofs.Common.{◌≡◌, take, map}
use Rattle.time_pred.specs.Predicates.{holds}
use Rattle.time_pred.specs.View.{view_shared}
use Rattle.node_states.proofs.marks.test_all.Given as goal

abbrev pub invariant-loop-child : goal.invariant-loop-child
invariant-loop-child l = take l.child l.marks ≡ map (λ pred. holds (view_shared pred) l.at.second) (take l.child l.preds)
