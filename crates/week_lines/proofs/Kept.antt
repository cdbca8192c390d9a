-- What is told of cases, read at its place.
use Rattle.std.proofs.Common.{◌≡◌, ◌<◌, ◌∙◌, ℕ, Bool, Some, List, not, ap, refl, length, subst, sym}
use Rattle.std.specs.Prelude.{map, slice_get}
use Rattle.std.proofs.lemmas.Option.{slice_get_read}
use Rattle.time_pred.specs.Predicates.{Predicate}
use Rattle.time_pred.specs.View.{view_shared}
use Rattle.week_plan.specs.Cases.{AreFates}
use Rattle.week_plan.specs.Looked.{IsLooked, IsLookedAt}
use Rattle.week_plan.specs.Spans.{some_case_holds}
use Rattle.week_plan.specs.Tables.{is_told}
use Rattle.week_plan.specs.declared.looked.Looked.{Looked}

one_alone : {X : Type 0} (a b : X) → Some a ≡ Some b → a ≡ b
one_alone a b same = cc

-- what is read at the place is what was told
pub is_found : (kept : List Looked) (place : ℕ) (preds : List Predicate) (sure : List Bool) (looked : Looked) → slice_get kept place ≡ Some looked
    → (found : IsLookedAt kept place preds sure) → looked ≡ found.looked
is_found kept place preds sure looked read found =
    one_alone looked found.looked (sym read ∙ slice_get_read kept (length kept) place found.looked refl found.at.here found.at.there)

pub same_holes : (looked found : Looked) (preds : List Predicate) → looked ≡ found → IsLooked found → map view_shared found.preds.now ≡ preds
    → (at : ℕ) → at < 604800 → is_told looked.seen.holes.items at ≡ not (some_case_holds preds at)
same_holes looked found preds is told of at low =
    ap (λ (l : Looked). is_told l.seen.holes.items at) is ∙ told.holes.same at low ∙ ap (λ (ps : List Predicate). not (some_case_holds ps at)) of

pub same_fates : (looked found : Looked) (preds : List Predicate) (sure : List Bool) → looked ≡ found → IsLooked found → map view_shared found.preds.now ≡ preds
    → found.sure.items ≡ sure → AreFates preds sure looked.seen.fates.items
same_fates looked found preds sure is told of_preds of_sure =
    subst (λ (l : Looked). AreFates preds sure l.seen.fates.items) (sym is) (rw (of_preds, of_sure) at told.fates)
