-- What was told of the cases of a switch.
use Rattle.std.specs.Prelude.{◌≡◌, ◌<◌, ℕ, Bool, List, get_or, length, map, not}
use Rattle.time_pred.specs.View.{view_shared}
use Rattle.time_pred.specs.Predicates.{Predicate}
use Rattle.week_plan.specs.Cases.{AreFates}
use Rattle.week_plan.specs.Spans.{some_case_holds}
use Rattle.week_plan.specs.Tables.{IsTableOf}
use Rattle.week_plan.specs.declared.looked.Looked.{Looked}

-- A kept answer about a `switch` is right: its holes are the seconds at which none of its predicates holds, and its
-- fates say what becomes of each of its cases.
pub record IsLooked (looked : Looked) : Type 0 where
  pub holes : IsTableOf (λ at. not (some_case_holds (map view_shared looked.preds.now) at)) looked.seen.holes.items
  pub fates : AreFates (map view_shared looked.preds.now) looked.sure.items looked.seen.fates.items

-- This answer, what was found out about a `switch`, stands at this place, from 0, of the answers kept so far.
pub record IsAt (kept : List Looked) (place : ℕ) (looked : Looked) : Type 0 where
  pub here : place < length kept
  pub there : looked ≡ get_or kept place looked

-- The kept answer at this place is right, and is about a `switch` with just these predicates and flags, so that it can
-- be used again. A flag of `sure` says that the source of a case never falls silent.
pub record IsLookedAt (kept : List Looked) (place : ℕ) (preds : List Predicate) (sure : List Bool) : Type 0 where
  pub looked : Looked
  pub at : IsAt kept place looked
  pub told : IsLooked looked
  pub of_preds : map view_shared looked.preds.now ≡ preds
  pub of_sure : looked.sure.items ≡ sure
