use Rattle.std.proofs.Common.{◌≡◌, ◌<◌, ◌≤◌, ℕ, get_or}
use Rattle.time_pred.specs.Predicates.{holds}
use Rattle.time_pred.specs.Marks.{Stays}
use Rattle.time_pred.specs.View.{view_shared}
use Rattle.time_pred.specs.declared.shared.SharedPred.{SharedPred}
use Rattle.node_states.proofs.marks.least_steady.Given as goal

abbrev pub invariant-loop-pred : goal.invariant-loop-pred
invariant-loop-pred l = (0 < l.least) × (l.least ≤ 604800)
    × ((i : ℕ) (pred : SharedPred) → i < l.pred-index → get_or l.preds i pred ≡ pred → Stays (holds (view_shared pred)) l.at.second l.least)
