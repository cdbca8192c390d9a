use Rattle.std.proofs.Common.{◌≡◌, ◌<◌, ◌≤◌, ℕ, get_or}
use Rattle.time_pred.specs.Predicates.{holds}
use Rattle.time_pred.specs.Marks.{Stays}
use Rattle.time_pred.specs.View.{view_pred}
use Rattle.time_pred.specs.declared.pred.Pred as pred
use Rattle.time_pred.proofs.pred.+steady.Given as goal

abbrev pub invariant-steady_all-loop-part : goal.invariant-steady_all-loop-part
invariant-steady_all-loop-part l = (0 < l.least) × (l.least ≤ 604800)
    × ((i : ℕ) (part : pred.Pred) → i < l.part-index → get_or l.parts i part ≡ part → Stays (holds (view_pred part)) l.at.second l.least)
