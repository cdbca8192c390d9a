-- What becomes of the cases of a switch.
use Rattle.std.proofs.Common.{◌≡◌, ◌<◌, ◌≤◌, ◌+◌, ◌∙◌, ℕ, zero, suc, Bool, true, false, not, ◌&&◌, ◌||◌, List, [], ◌∷◌, ◌++◌, take, drop, length, get_or, arith, refl, ap, sym, inl, inr}
use Rattle.std.specs.Prelude.{map}
use Rattle.std.specs.List.{list_any, zip}
use Rattle.std.proofs.Math.ListN.{get_or-append}
use Rattle.std.proofs.Math.Seq.{get_or-append_seam}
use Rattle.std.proofs.lemmas.Bool.{cases_eq}
use Rattle.std.proofs.lemmas.List.{get_or-map, get_or_default, take_all}
use Rattle.std.proofs.lemmas.List.Folds.{list_any_more}
use Rattle.std.proofs.lemmas.Slice.Zip.{get_or-zip}
use Rattle.time_pred.specs.Predicates.{Predicate, holds}
use Rattle.time_pred.specs.View.{view_shared}
use Rattle.time_pred.specs.declared.shared.SharedPred.{SharedPred}
use Rattle.week_plan.specs.Cases.{AreFates, IsFate, IsFateBy, IsKept, IsNever, first_holds, holds_surely, is_taken, may_choose}
use Rattle.week_plan.specs.Spans.{some_case_holds}
use Rattle.week_plan.specs.Tables.{IsTableOf, is_told}
use Rattle.week_plan.specs.declared.cases.Fate.{Fate}
use Rattle.week_plan.specs.declared.cases.Fate.TheVariants.{Chosen, Hidden, Never}

-- some of these predicates holds
abbrev pub some_of : List SharedPred → ℕ → Bool
some_of preds at = list_any (λ p. holds (view_shared p) at) preds

-- the same of the plain trees
pub viewed : (preds : List SharedPred) (at : ℕ) → some_case_holds (map view_shared preds) at ≡ some_of preds at
viewed [] at = refl
viewed (p ∷ ps) at = ap (λ (b : Bool). holds (view_shared p) at || b) (viewed ps at)

size_viewed : (preds : List SharedPred) → length (map view_shared preds) ≡ length preds
size_viewed [] = refl
size_viewed (p ∷ ps) = ap suc (size_viewed ps)

pairs_size : (preds : List Predicate) (sure : List Bool) → length preds ≤ length sure → length (zip preds sure) ≡ length preds
pairs_size [] sure size = refl
pairs_size (p ∷ ps) [] size = absurd (omega (arith, size))
pairs_size (p ∷ ps) (s ∷ ss) size = ap suc (pairs_size ps ss (omega (arith, size)))

-- of the first so many cases one holds that never falls silent
abbrev pub taken_of : List SharedPred → (sure : List Bool) → (k at : ℕ) → Bool
taken_of preds sure k at = list_any (holds_surely at) (take k (zip (map view_shared preds) sure))

first_pairs : (k : ℕ) (preds : List Predicate) (sure : List Bool) → zip (take k preds) sure ≡ take k (zip preds sure)
first_pairs zero preds sure = refl
first_pairs (suc k) [] sure = refl
first_pairs (suc k) (p ∷ ps) [] = refl
first_pairs (suc k) (p ∷ ps) (s ∷ ss) = ap (λ (pairs : List (Predicate × Bool)). (p, s) ∷ pairs) (first_pairs k ps ss)

taken_first : (preds : List SharedPred) (sure : List Bool) (k at : ℕ) → is_taken (take k (map view_shared preds)) sure at ≡ taken_of preds sure k at
taken_first preds sure k at = ap (list_any (holds_surely at)) (first_pairs k (map view_shared preds) sure)

pair_at : (preds : List SharedPred) (sure : List Bool) (k : ℕ) (pred : SharedPred) (x : ℕ) → k < length preds → length preds ≤ length sure → pred ≡ get_or preds k pred
    → holds_surely x (get_or (zip (map view_shared preds) sure) k (view_shared pred, false)) ≡ (holds (view_shared pred) x && get_or sure k false)
pair_at preds sure k pred x here size is =
    ap (holds_surely x) (get_or-zip (map view_shared preds) sure k (view_shared pred, false) (let s = size_viewed preds in omega (arith, here, s)) (omega (arith, here, size)))
    ∙ ap (λ (p : Predicate). holds p x && get_or sure k false) (get_or-map view_shared preds k pred (view_shared pred) here ∙ ap view_shared (sym is))

-- one case more
taken_more : (preds : List SharedPred) (sure : List Bool) (k : ℕ) (pred : SharedPred) (at : ℕ) → k < length preds → length preds ≤ length sure → pred ≡ get_or preds k pred
    → taken_of preds sure (k + 1) at ≡ (taken_of preds sure k at || (holds (view_shared pred) at && get_or sure k false))
taken_more preds sure k pred at here size is =
    list_any_more (holds_surely at) (zip (map view_shared preds) sure) k (view_shared pred, false)
    (let s = size_viewed preds in let p = pairs_size (map view_shared preds) sure (omega (arith, s, size)) in omega (arith, here, s, p))
    ∙ ap (λ (b : Bool). taken_of preds sure k at || b) (pair_at preds sure k pred at here size is)

some_more : (preds : List SharedPred) (k : ℕ) (pred : SharedPred) (at : ℕ) → k < length preds → pred ≡ get_or preds k pred
    → some_of (take (k + 1) preds) at ≡ (some_of (take k preds) at || holds (view_shared pred) at)
some_more preds k pred at here is =
    list_any_more (λ p. holds (view_shared p) at) preds k pred here
    ∙ ap (λ (p : SharedPred). some_of (take k preds) at || holds (view_shared p) at) (sym is)

not_either : (a b : Bool) → (not a && not b) ≡ not (a || b)
not_either true b = refl
not_either false b = refl

-- what no case holds at, and what is free, with one case more
pub open_more : (preds : List SharedPred) (k : ℕ) (pred : SharedPred) (old new : List ℕ) → k < length preds → pred ≡ get_or preds k pred
    → IsTableOf (λ at. not (some_of (take k preds) at)) old → IsTableOf (λ at. is_told old at && not (holds (view_shared pred) at)) new
    → IsTableOf (λ at. not (some_of (take (k + 1) preds) at)) new
open_more preds k pred old new here is before after = record {
  table = after.table;
  same = λ at low.
      after.same at low
      ∙ ap (λ (b : Bool). b && not (holds (view_shared pred) at)) (before.same at low)
      ∙ not_either (some_of (take k preds) at) (holds (view_shared pred) at)
      ∙ ap not (sym (some_more preds k pred at here is));
}

pub free_more : (preds : List SharedPred) (sure : List Bool) (k : ℕ) (pred : SharedPred) (old new : List ℕ) → k < length preds → length preds ≤ length sure → pred ≡ get_or preds k pred
    → IsTableOf (λ at. not (taken_of preds sure k at)) old → IsTableOf (λ at. is_told old at && not (holds (view_shared pred) at && get_or sure k false)) new
    → IsTableOf (λ at. not (taken_of preds sure (k + 1) at)) new
free_more preds sure k pred old new here size is before after = record {
  table = after.table;
  same = λ at low.
      after.same at low
      ∙ ap (λ (b : Bool). b && not (holds (view_shared pred) at && get_or sure k false)) (before.same at low)
      ∙ not_either (taken_of preds sure k at) (holds (view_shared pred) at && get_or sure k false)
      ∙ ap not (sym (taken_more preds sure k pred at here size is));
}

-- what becomes of a case is told by the seconds of the week
pub fate_same : (held also_held chosen also_chosen : ℕ → Bool) (fate : Fate)
    → ((at : ℕ) → at < 604800 → held at ≡ also_held at) → ((at : ℕ) → at < 604800 → chosen at ≡ also_chosen at)
    → IsFateBy held chosen fate → IsFateBy also_held also_chosen fate
fate_same held also_held chosen also_chosen Chosen first second (at, low, is) = (at, low, sym (second at low) ∙ is)
fate_same held also_held chosen also_chosen Hidden first second ((at, low, is), never) =
    ((at, low, sym (first at low) ∙ is), λ x from to. sym (second x to) ∙ never x from to)
fate_same held also_held chosen also_chosen Never first second never = λ x from to. sym (first x to) ∙ never x from to

first_at : (preds : List SharedPred) (case : ℕ) (pred : SharedPred) (x : ℕ) → case < length preds → first_holds (drop case (map view_shared preds)) x ≡ holds (view_shared (get_or preds case pred)) x
first_at [] case pred x here = absurd (omega (arith, here))
first_at (p ∷ ps) zero pred x here = refl
first_at (p ∷ ps) (suc case) pred x here = first_at ps case pred x (omega (arith, here))

pub fate_at : (preds : List SharedPred) (sure : List Bool) (k : ℕ) (pred : SharedPred) (free : List ℕ) (fate : Fate) → k < length preds → pred ≡ get_or preds k pred
    → IsTableOf (λ at. not (taken_of preds sure k at)) free → IsFateBy (holds (view_shared pred)) (λ at. holds (view_shared pred) at && is_told free at) fate
    → IsFate (map view_shared preds) sure k fate
fate_at preds sure k pred free fate here is table by =
    fate_same (holds (view_shared pred)) (first_holds (drop k (map view_shared preds))) (λ at. holds (view_shared pred) at && is_told free at) (may_choose (map view_shared preds) sure k) fate
    held (λ at low.
    ap (λ (b : Bool). holds (view_shared pred) at && b) (table.same at low ∙ ap not (sym (taken_first preds sure k at)))
    ∙ ap (λ (b : Bool). b && not (is_taken (take k (map view_shared preds)) sure at)) (held at low))
    by
  where
    held : (at : ℕ) → at < 604800 → holds (view_shared pred) at ≡ first_holds (drop k (map view_shared preds)) at
    held at low = ap (λ (p : SharedPred). holds (view_shared p) at) is ∙ sym (first_at preds k pred at here)

-- one fate more
pub fates_more : (preds : List SharedPred) (sure : List Bool) (k : ℕ) (fates : List Fate) (fate : Fate) → length fates ≡ k
    → ((j : ℕ) → j < k → IsFate (map view_shared preds) sure j (get_or fates j Chosen)) → IsFate (map view_shared preds) sure k fate
    → (j : ℕ) → j < k + 1 → IsFate (map view_shared preds) sure j (get_or (fates ++ fate ∷ []) j Chosen)
fates_more preds sure k fates fate size before is j low = elim (cases_eq j k) [
  | inl same ↦ (let at : get_or (fates ++ fate ∷ []) j Chosen ≡ fate = ap (λ (n : ℕ). get_or (fates ++ fate ∷ []) n Chosen) (same ∙ sym size) ∙ get_or-append_seam fates fate [] Chosen in rw (at, same) is)
  | inr other ↦ (let at : get_or (fates ++ fate ∷ []) j Chosen ≡ get_or fates j Chosen = get_or-append fates (fate ∷ []) Chosen j (omega (arith, low, other, size)) in rw at (before j (omega (arith, low, other))))
]

-- all cases were looked at
pub all_open : (preds : List SharedPred) (k : ℕ) (left : List ℕ) → length preds ≤ k → IsTableOf (λ at. not (some_of (take k preds) at)) left
    → IsTableOf (λ at. not (some_case_holds (map view_shared preds) at)) left
all_open preds k left end of = record {
  table = of.table;
  same = λ at low. of.same at low ∙ ap (λ (ps : List SharedPred). not (some_of ps at)) (take_all k preds end) ∙ ap not (sym (viewed preds at));
}

pub all_fates : (preds : List SharedPred) (sure : List Bool) (k : ℕ) (fates : List Fate) → k ≡ length preds → length fates ≡ k
    → ((j : ℕ) → j < k → IsFate (map view_shared preds) sure j (get_or fates j Chosen)) → AreFates (map view_shared preds) sure fates
all_fates preds sure k fates end size each = record {
  size = size ∙ end ∙ sym (size_viewed preds);
  each = λ j low. each j (let s = size_viewed preds in omega (arith, low, s, end));
}

pub never_both : (test : ℕ → Bool) → ((at : ℕ) → at < 604800 → (test at && test at) ≡ false) → IsNever test
never_both test none = λ at from to. by (test at) (none at to)
  where
    by : (b : Bool) → (b && b) ≡ false → b ≡ false
    by true is = is
    by false is = refl

-- what is told of each second of the week by the table of a case
pub table_as : (test other : ℕ → Bool) (words : List ℕ) → ((at : ℕ) → at < 604800 → test at ≡ other at) → IsTableOf test words → IsTableOf other words
table_as test other words same of = record { table = of.table; same = λ at low. of.same at low ∙ same at low }

-- the table of a case is kept for the next one
pub kept_next : (preds : List SharedPred) (k : ℕ) (pred : SharedPred) (table : List ℕ) → k < length preds → pred ≡ get_or preds k pred
    → IsTableOf (holds (view_shared pred)) table → IsKept preds (k + 1) table
kept_next preds k pred table here is of = λ j before next at.
    let same : j ≡ k = omega (arith, next) in
    let one : pred ≡ before = is ∙ get_or_default preds k pred before here ∙ ap (λ (n : ℕ). get_or preds n before) (sym same) ∙ sym at in
    table_as (holds (view_shared pred)) (holds (view_shared before)) table (λ x low. ap (λ (p : SharedPred). holds (view_shared p) x) one) of
