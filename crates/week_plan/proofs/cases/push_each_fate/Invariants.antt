use Rattle.std.proofs.Common.{◌≡◌, ◌<◌, ℕ, not, take, length, get_or}
use Rattle.std.specs.Prelude.{map}
use Rattle.time_pred.specs.View.{view_shared}
use Rattle.week_plan.specs.Cases.{IsFate, IsKept}
use Rattle.week_plan.specs.Tables.{IsTableOf}
use Rattle.week_plan.specs.declared.cases.Fate.TheVariants.{Chosen}
use Rattle.week_plan.proofs.Choices.{some_of, taken_of}
use Rattle.week_plan.proofs.cases.push_each_fate.Given as goal

abbrev pub invariant-loop-k : goal.invariant-loop-k
invariant-loop-k l = record {
  holes : IsTableOf (λ at. not (some_of (take l.k l.preds) at)) l.holes;
  free : IsTableOf (λ at. not (taken_of l.preds l.sure l.k at)) l.free;
  size : length l.into.items ≡ l.k;
  fates : (j : ℕ) → j < l.k → IsFate (map view_shared l.preds) l.sure j (get_or l.into.items j Chosen);
  kept : IsKept l.preds l.k l.kept.items;
}
