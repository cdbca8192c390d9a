-- The windows of cases, one by one.
use Rattle.std.proofs.Common.{◌≡◌, ◌<◌, ◌≤◌, ◌+◌, ◌∙◌, ℕ, Bool, true, false, not, ◌&&◌, ◌||◌, List, [], ◌∷◌, ◌++◌, drop, length, get_or, take, append_assoc, refl, ap, sym}
use Rattle.std.specs.Prelude.{map}
use Rattle.std.specs.Global.{Vec}
use Rattle.std.specs.List.{list_any}
use Rattle.std.proofs.lemmas.List.{append-nil, drop_all, drop_more, map-append, take_all}
use Rattle.std.proofs.lemmas.List.Folds.{list_any_more}
use Rattle.time_pred.specs.Predicates.{Predicate, holds}
use Rattle.time_pred.specs.View.{view_shared}
use Rattle.time_pred.specs.declared.shared.SharedPred.{SharedPred}
use Rattle.week_plan.specs.declared.span.Span.{Span}
use Rattle.week_plan.specs.Spans.{AreSpansOf, some_case_holds}
use Rattle.week_plan.specs.Tables.{IsTableOf, is_told}
use Rattle.week_windows.specs.Windows.{case_spans, case_windows, in_all, is_first, lengths_of, spans_from, spans_in, windows_of}
use Rattle.week_windows.specs.declared.windows.Windows.{Windows}
use Rattle.week_windows.proofs.Seconds.{none_told, same_week, spans_are}

-- the spans of a table are those of what is told of each second of the week
pub found : (test other : ℕ → Bool) (spans : List Span) → ((t : ℕ → Bool) (xs ys : List Span) → AreSpansOf t xs → AreSpansOf t ys → xs ≡ ys)
    → ((at : ℕ) → at < 604800 → test at ≡ other at) → AreSpansOf test spans → spans ≡ spans_from other 0 604800
found test other spans one_list same of =
    one_list other spans (spans_from other 0 604800) (record { exact = λ at low. of.exact at low ∙ same at low; apart = of.apart; within = of.within }) (spans_are other)

-- some of these predicates holds
abbrev some_of : List SharedPred → ℕ → Bool
some_of preds at = list_any (λ p. holds (view_shared p) at) preds

viewed : (preds : List SharedPred) (at : ℕ) → some_case_holds (map view_shared preds) at ≡ some_of preds at
viewed [] at = refl
viewed (p ∷ ps) at = ap (λ (b : Bool). holds (view_shared p) at || b) (viewed ps at)

-- the spans of the first so many cases, and the table of the seconds at which none of them holds
pub record AreTaken (preds : List SharedPred) (k : ℕ) (cases : List (Vec Span)) (free : List ℕ) : Type 0 where
  pub earlier : List Predicate
  pub seen : (at : ℕ) → some_case_holds earlier at ≡ some_of (take k preds) at
  pub table : IsTableOf (λ at. not (some_case_holds earlier at)) free
  pub rest : map spans_in cases ++ case_spans earlier (map view_shared (drop k preds)) ≡ case_spans [] (map view_shared preds)

pub none_taken : (preds : List SharedPred) (cases : List (Vec Span)) (free : List ℕ) → cases ≡ [] → IsTableOf (λ at. true) free → AreTaken preds 0 cases free
none_taken preds cases free none table = record {
  earlier = [];
  seen = λ at. refl;
  table = record { table = table.table; same = λ at low. table.same at low };
  rest = ap (λ (l : List (Vec Span)). map spans_in l ++ case_spans [] (map view_shared preds)) none;
}

neither : (e h : Bool) → (not e && not h) ≡ not (h || e)
neither true true = refl
neither true false = refl
neither false true = refl
neither false false = refl

either : (h e : Bool) → (h || e) ≡ (e || h)
either true true = refl
either true false = refl
either false true = refl
either false false = refl

at_place : (preds : List SharedPred) (k : ℕ) (pred : SharedPred) → k < length preds → pred ≡ get_or preds k pred → pred ∷ drop (k + 1) preds ≡ drop k preds
at_place preds k pred here is = ap (λ (p : SharedPred). p ∷ drop (k + 1) preds) is ∙ sym (drop_more preds k pred here)

pub one_taken : (preds : List SharedPred) (k : ℕ) (pred : SharedPred) (cases more : List (Vec Span)) (spans : Vec Span) (free left : List ℕ)
    → k < length preds → pred ≡ get_or preds k pred → AreTaken preds k cases free
    → spans.items ≡ spans_from (λ at. holds (view_shared pred) at && is_told free at) 0 604800
    → IsTableOf (λ at. is_told free at && not (holds (view_shared pred) at)) left
    → more ≡ cases ++ spans ∷ [] → AreTaken preds (k + 1) more left
one_taken preds k pred cases more spans free left here is taken are table pushed = record {
  earlier = view_shared pred ∷ taken.earlier;
  seen = λ at.
      ap (λ (b : Bool). holds (view_shared pred) at || b) (taken.seen at) ∙ either (holds (view_shared pred) at) (some_of (take k preds) at)
      ∙ ap (λ (p : SharedPred). some_of (take k preds) at || holds (view_shared p) at) is
      ∙ sym (list_any_more (λ p. holds (view_shared p) at) preds k pred here);
  table = record {
    table = table.table;
    same = λ at low.
        table.same at low ∙ ap (λ (b : Bool). b && not (holds (view_shared pred) at)) (taken.table.same at low)
        ∙ neither (some_case_holds taken.earlier at) (holds (view_shared pred) at);
  };
  rest = ap (λ (l : List (Vec Span)). map spans_in l ++ others) pushed ∙ ap (λ (l : List (List Span)). l ++ others) (map-append spans_in cases (spans ∷ []))
      ∙ append_assoc (map spans_in cases) (spans.items ∷ []) others
      ∙ ap (λ (s : List Span). map spans_in cases ++ (s ∷ others)) (are ∙ same_week (λ at. holds (view_shared pred) at && is_told free at) (is_first taken.earlier (view_shared pred))
      (λ at low. ap (λ (b : Bool). holds (view_shared pred) at && b) (taken.table.same at low)))
      ∙ ap (λ (l : List SharedPred). map spans_in cases ++ case_spans taken.earlier (map view_shared l)) (at_place preds k pred here is) ∙ taken.rest;
}
  where
    others : List (List Span)
    others = case_spans (view_shared pred ∷ taken.earlier) (map view_shared (drop (k + 1) preds))

pub all_taken : (preds : List SharedPred) (k : ℕ) (cases : List (Vec Span)) (free : List ℕ) → length preds ≤ k → AreTaken preds k cases free
    → map spans_in cases ≡ case_spans [] (map view_shared preds)
all_taken preds k cases free end taken =
    sym (append-nil (map spans_in cases)) ∙ ap (λ (l : List SharedPred). map spans_in cases ++ case_spans taken.earlier (map view_shared l)) (sym (drop_all k preds end)) ∙ taken.rest

pub all_free : (preds : List SharedPred) (k : ℕ) (cases : List (Vec Span)) (free : List ℕ) → length preds ≤ k → AreTaken preds k cases free
    → IsTableOf (λ at. not (some_case_holds (map view_shared preds) at)) free
all_free preds k cases free end taken = record {
  table = taken.table.table;
  same = λ at low.
      taken.table.same at low
      ∙ ap not (taken.seen at ∙ ap (λ (l : List SharedPred). some_of l at) (take_all k preds end) ∙ sym (viewed preds at));
}

-- where a predicate stands among those before it, its seconds are not free
pub gone : (preds : List SharedPred) (k : ℕ) (pred : SharedPred) (cases : List (Vec Span)) (free : List ℕ) (at : ℕ) → AreTaken preds k cases free
    → some_of (take k preds) at ≡ true → at < 604800 → is_told free at ≡ false
gone preds k pred cases free at taken held low = taken.table.same at low ∙ ap not (taken.seen at ∙ held)

-- the windows of these spans
pub windows_are : (earlier preds : List Predicate) (cases : List (Vec Span)) → map spans_in cases ≡ case_spans earlier preds
    → map (λ spans. in_all (lengths_of (spans_in spans))) cases ≡ case_windows earlier preds
windows_are earlier preds cases are = as_map cases ∙ ap (map (λ spans. in_all (lengths_of spans))) are ∙ each earlier preds
  where
    as_map : (cases : List (Vec Span)) → map (λ spans. in_all (lengths_of (spans_in spans))) cases ≡ map (λ spans. in_all (lengths_of spans)) (map spans_in cases)
    as_map [] = refl
    as_map (c ∷ cs) = ap (λ (l : List Windows). in_all (lengths_of (spans_in c)) ∷ l) (as_map cs)

    each : (earlier preds : List Predicate) → map (λ spans. in_all (lengths_of spans)) (case_spans earlier preds) ≡ case_windows earlier preds
    each earlier [] = refl
    each earlier (p ∷ ps) = ap (λ (l : List Windows). windows_of (is_first earlier p) ∷ l) (each (p ∷ earlier) ps)

-- a case that has no second of its own has no spans, and takes none
pub none_own : (held free : ℕ → Bool) → ((at : ℕ) → at < 604800 → held at ≡ true → free at ≡ false)
    → [] ≡ spans_from (λ at. held at && free at) 0 604800
none_own held free taken = sym (same_week (λ at. held at && free at) (λ at. false) (λ at low. by (held at) (free at) (taken at low)) ∙ none_told 0 604800)
  where
    by : (h f : Bool) → (h ≡ true → f ≡ false) → (h && f) ≡ false
    by true f none = none refl
    by false f none = refl

pub all_kept : (held free : Bool) → (held ≡ true → free ≡ false) → free ≡ (free && not held)
all_kept true free none = none refl ∙ sym (ap (λ (f : Bool). f && false) (none refl))
all_kept false true none = refl
all_kept false false none = refl

-- what is taken of the seconds that are free
pub freed : (t f : Bool) → (f && not (t && f)) ≡ (f && not t)
freed true true = refl
freed true false = refl
freed false true = refl
freed false false = refl
