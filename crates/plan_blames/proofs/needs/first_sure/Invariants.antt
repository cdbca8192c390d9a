use Rattle.std.proofs.Common.{◌≡◌, ℕ, false, map, take}
use Rattle.std.specs.List.{list_any, zip}
use Rattle.time_pred.specs.View.{view_shared}
use Rattle.plan_blames.specs.Needs.{is_case}
use Rattle.plan_blames.proofs.needs.first_sure.Given as goal

abbrev pub invariant-loop-k : goal.invariant-loop-k
invariant-loop-k l = (child : ℕ) → list_any (is_case child) (take l.k (zip (map view_shared l.preds) l.children)) ≡ false
