-- Which cases of a switch may be chosen, and what becomes of each.
use Rattle.std.specs.Prelude.{◌≡◌, ◌<◌, ◌+◌, ℕ, Bool, true, false, not, ◌&&◌, List, [], ◌∷◌, take, drop, length, get_or}
use Rattle.std.specs.List.{list_any, zip}
use Rattle.time_pred.specs.Predicates.{Predicate, holds}
use Rattle.time_pred.specs.View.{view_shared}
use Rattle.time_pred.specs.declared.shared.SharedPred.{SharedPred}
use Rattle.week_plan.specs.declared.cases.Fate.{Fate}
use Rattle.week_plan.specs.declared.cases.Fate.TheVariants.{Chosen, Hidden, Never}
use Rattle.week_plan.specs.Spans.{IsFor}
use Rattle.week_plan.specs.Tables.{IsTableOf}

-- At this second of the week a case of a `switch` has surely something to play: its predicate holds, and its source
-- never falls silent, which the flag beside the predicate says. No later case can be chosen then.
abbrev pub holds_surely : (at : ℕ) → Predicate × Bool → Bool
holds_surely at case = holds case.0 at && case.1

-- At this second of the week one of these cases of a `switch` holds whose source never falls silent, by `sure`, so that
-- no later case can be chosen.
abbrev pub is_taken : List Predicate → (sure : List Bool) → (at : ℕ) → Bool
is_taken preds sure at = list_any (holds_surely at) (zip preds sure)

-- Whether the first of these predicates holds at this second of the week; false where there is none.
abbrev pub first_holds : List Predicate → (at : ℕ) → Bool
first_holds [] at = false
first_holds (pred ∷ preds) at = holds pred at

-- Case number `case` of a `switch` may be chosen at this second of the week: it holds, and no case before it holds
-- whose source never falls silent, by `sure`.
abbrev pub may_choose : List Predicate → (sure : List Bool) → (case at : ℕ) → Bool
may_choose preds sure case at = first_holds (drop case preds) at && not (is_taken (take case preds) sure at)

-- The test, a set of seconds of the week, is true of at least one second.
abbrev pub IsOnce : (ℕ → Bool) → Type 0
IsOnce test = (at : ℕ) × (at < 604800) × (test at ≡ true)

-- The test, a set of seconds of the week, is true of no second.
abbrev pub IsNever : (ℕ → Bool) → Type 0
IsNever test = IsFor test 0 604800 false

-- What becomes of a case of a `switch` that holds at the seconds `held` and may be chosen at the seconds `chosen`: it
-- may be chosen at some second; or holds at some, but is always hidden by a case before; or never holds.
abbrev pub IsFateBy : (held chosen : ℕ → Bool) → Fate → Type 0
IsFateBy held chosen Chosen = IsOnce chosen
IsFateBy held chosen Hidden = IsOnce held × IsNever chosen
IsFateBy held chosen Never = IsNever held

-- What becomes of case number `case` of a `switch` over the week: it may be chosen at some second, is always hidden by
-- a case before it, or never holds. `sure` tells of each case whether its source never falls silent.
abbrev pub IsFate : List Predicate → (sure : List Bool) → (case : ℕ) → Fate → Type 0
IsFate preds sure case fate = IsFateBy (first_holds (drop case preds)) (may_choose preds sure case) fate

-- What becomes of each case of a `switch` over the week: one answer for each predicate, in order. `sure` tells of each
-- case whether its source never falls silent.
pub record AreFates (preds : List Predicate) (sure : List Bool) (fates : List Fate) : Type 0 where
  pub size : length fates ≡ length preds
  pub each : (case : ℕ) → case < length preds → IsFate preds sure case (get_or fates case Chosen)

-- A table kept while the cases of a `switch` are looked at in order, before case number `case`: it has the seconds at
-- which the predicate of the case just before holds. Before case 0 it may be anything.
abbrev pub IsKept : List SharedPred → (case : ℕ) → (table : List ℕ) → Type 0
IsKept preds case table = (k : ℕ) (pred : SharedPred) → case ≡ k + 1 → pred ≡ get_or preds k pred
    → IsTableOf (holds (view_shared pred)) table
