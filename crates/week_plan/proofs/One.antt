-- There is one list of spans alone.
use Rattle.std.proofs.Common.{◌≡◌, ◌<◌, ◌≤◌, ◌∙◌, ℕ, suc, Bool, true, false, ◌||◌, List, [], ◌∷◌, arith, refl, ap, sym, subst, inl, inr}
use Rattle.std.specs.Prelude.{All}
use Rattle.std.proofs.lemmas.Bool.{cases_lt}
use Rattle.std.proofs.lemmas.List.Elements.{All-head, All-tail}
use Rattle.week_plan.specs.declared.span.Span.{Span}
use Rattle.week_plan.specs.Spans.{AreApart, AreSpansOf, is_in_some}
use Rattle.week_plan.proofs.Walks.{before_span, behind_span, in_span}

clash : {A : Type 0} (b c : Bool) → b ≡ c → b ≡ true → c ≡ false → A
clash true true same one other = absurd cc
clash true false same one other = absurd cc
clash false c same one other = absurd cc

none_below : (low : ℕ) (spans : List Span) (at : ℕ) → AreApart low spans → at < low → is_in_some spans at ≡ false
none_below low [] at apart below = refl
none_below low (s ∷ spans) at apart below =
    ap (λ (b : Bool). b || is_in_some spans at) (before_span s.from s.to at (let first = apart.0 in omega (arith, first, below)))
    ∙ none_below (suc s.to) spans at apart.2 (let first = apart.0 in let some = apart.1 in omega (arith, first, some, below))

-- within the first of some spans
at_first : (low : ℕ) (s : Span) (spans : List Span) (at : ℕ) → s.from ≤ at → at < s.to → is_in_some (s ∷ spans) at ≡ true
at_first low s spans at first last = ap (λ (b : Bool). b || is_in_some spans at) (in_span s.from s.to at first last)

-- before the first of some spans
before_first : (low : ℕ) (s : Span) (spans : List Span) (at : ℕ) → AreApart low (s ∷ spans) → at < s.from → is_in_some (s ∷ spans) at ≡ false
before_first low s spans at apart before =
    ap (λ (b : Bool). b || is_in_some spans at) (before_span s.from s.to at before)
    ∙ none_below (suc s.to) spans at apart.2 (let some = apart.1 in omega (arith, some, before))

-- at the end of the first of some spans
at_end : (low : ℕ) (s : Span) (spans : List Span) → AreApart low (s ∷ spans) → is_in_some (s ∷ spans) s.to ≡ false
at_end low s spans apart =
    ap (λ (b : Bool). b || is_in_some spans s.to) (behind_span s s.to (omega arith))
    ∙ none_below (suc s.to) spans s.to apart.2 (omega arith)

-- these two tell the same of each second from one on
abbrev Alike : ℕ → List Span → List Span → Type 0
Alike low xs ys = (at : ℕ) → low ≤ at → at < 604800 → is_in_some xs at ≡ is_in_some ys at

abbrev InWeek : List Span → Type 0
InWeek spans = All (λ span. span.to ≤ 604800) spans

no_earlier : (low : ℕ) (x y : Span) (xs ys : List Span) → AreApart low (x ∷ xs) → AreApart low (y ∷ ys) → x.to ≤ 604800 → Alike low (x ∷ xs) (y ∷ ys) → y.from ≤ x.from
no_earlier low x y xs ys one other week alike = elim (cases_lt x.from y.from) [
  | inl earlier ↦ (let first = one.0 in let some = one.1 in clash (is_in_some (x ∷ xs) x.from) (is_in_some (y ∷ ys) x.from) (alike x.from first (omega (arith, some, week)))
      (at_first low x xs x.from (omega arith) some) (before_first low y ys x.from other earlier))
  | inr is ↦ is
]

no_shorter : (low : ℕ) (x y : Span) (xs ys : List Span) → AreApart low (x ∷ xs) → AreApart low (y ∷ ys) → y.to ≤ 604800 → x.from ≡ y.from → Alike low (x ∷ xs) (y ∷ ys) → y.to ≤ x.to
no_shorter low x y xs ys one other week same alike = elim (cases_lt x.to y.to) [
  | inl shorter ↦ (let first = one.0 in let some = one.1 in clash (is_in_some (y ∷ ys) x.to) (is_in_some (x ∷ xs) x.to) (sym (alike x.to (omega (arith, first, some)) (omega (arith, shorter, week))))
      (at_first low y ys x.to (omega (arith, same, some)) shorter) (at_end low x xs one))
  | inr is ↦ is
]

turned : (low : ℕ) (xs ys : List Span) → Alike low xs ys → Alike low ys xs
turned low xs ys alike = λ at first last. sym (alike at first last)

rest_alike : (low : ℕ) (x y : Span) (xs ys : List Span) → AreApart low (x ∷ xs) → x.to ≡ y.to → Alike low (x ∷ xs) (y ∷ ys) → Alike (suc x.to) xs ys
rest_alike low x y xs ys one same alike = λ at first last.
    sym (ap (λ (b : Bool). b || is_in_some xs at) (behind_span x at (omega (arith, first))))
    ∙ alike at (let low_from = one.0 in let some = one.1 in omega (arith, low_from, some, first)) last
    ∙ ap (λ (b : Bool). b || is_in_some ys at) (behind_span y at (omega (arith, first, same)))

same_list : (low : ℕ) (xs ys : List Span) → AreApart low xs → AreApart low ys → InWeek xs → InWeek ys → Alike low xs ys → xs ≡ ys
same_list low [] [] one other xs_in ys_in alike = refl
same_list low [] (y ∷ ys) one other xs_in ys_in alike =
    let first = other.0 in
    let some = other.1 in
    let week : y.to ≤ 604800 = All-head (λ s. s.to ≤ 604800) y ys ys_in in
    clash (is_in_some (y ∷ ys) y.from) false (sym (alike y.from first (omega (arith, some, week)))) (at_first low y ys y.from (omega arith) some) refl
same_list low (x ∷ xs) [] one other xs_in ys_in alike =
    let first = one.0 in
    let some = one.1 in
    let week : x.to ≤ 604800 = All-head (λ s. s.to ≤ 604800) x xs xs_in in
    clash (is_in_some (x ∷ xs) x.from) false (alike x.from first (omega (arith, some, week))) (at_first low x xs x.from (omega arith) some) refl
same_list low (x ∷ xs) (y ∷ ys) one other xs_in ys_in alike =
    let x_week : x.to ≤ 604800 = All-head (λ s. s.to ≤ 604800) x xs xs_in in
    let y_week : y.to ≤ 604800 = All-head (λ s. s.to ≤ 604800) y ys ys_in in
    let a : y.from ≤ x.from = no_earlier low x y xs ys one other x_week alike in
    let b : x.from ≤ y.from = no_earlier low y x ys xs other one y_week (turned low (x ∷ xs) (y ∷ ys) alike) in
    let from : x.from ≡ y.from = omega (arith, a, b) in
    let c : y.to ≤ x.to = no_shorter low x y xs ys one other y_week from alike in
    let d : x.to ≤ y.to = no_shorter low y x ys xs other one x_week (sym from) (turned low (x ∷ xs) (y ∷ ys) alike) in
    let to : x.to ≡ y.to = omega (arith, c, d) in
    let rest : xs ≡ ys = same_list (suc x.to) xs ys one.2 (subst (λ (n : ℕ). AreApart (suc n) ys) (sym to) other.2)
    (All-tail (λ s. s.to ≤ 604800) x xs xs_in) (All-tail (λ s. s.to ≤ 604800) y ys ys_in) (rest_alike low x y xs ys one to alike) in
    λ i. record { from = from i; to = to i } ∷ rest i

pub one_list : (test : ℕ → Bool) (xs ys : List Span) → AreSpansOf test xs → AreSpansOf test ys → xs ≡ ys
one_list test xs ys one other = same_list 0 xs ys one.apart other.apart one.within other.within (λ at first last. one.exact at last ∙ sym (other.exact at last))
