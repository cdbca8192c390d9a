-- The spans from one second on are those of exactly the seconds that are told.
use Rattle.std.proofs.Common.{◌≡◌, ◌<◌, ◌≤◌, ◌+◌, ◌∙◌, ℕ, zero, suc, Bool, true, false, cond, ◌||◌, List, [], ◌∷◌, arith, refl, ap, sym, subst, inl, inr}
use Rattle.std.specs.Prelude.{All, nat_eq}
use Rattle.std.proofs.lemmas.Bool.{cases_eq}
use Rattle.std.proofs.lemmas.Bool.Decides.{nat_tests}
use Rattle.std.proofs.lemmas.List.Elements.{All-cons, All-head, All-nil, All-tail}
use Rattle.week_plan.specs.declared.span.Span.{Span}
use Rattle.week_plan.specs.Spans.{AreApart, AreSpansOf, is_in, is_in_some}
use Rattle.week_windows.specs.Windows.{spans_from, with_second}

none_left : (test : ℕ → Bool) (at : ℕ) → spans_from test at 0 ≡ []
unfolding spans_from
none_left test at = refl

one_more : (test : ℕ → Bool) (at count : ℕ)
    → spans_from test at (suc count) ≡ cond (test at) (with_second at (spans_from test (at + 1) count)) (spans_from test (at + 1) count)
unfolding spans_from
one_more test at count = refl

-- these are the spans of what is told of each second from one up to another
record AreSpansBetween (test : ℕ → Bool) (from to : ℕ) (spans : List Span) : Type 0 where
  exact : (x : ℕ) → from ≤ x → x < to → is_in_some spans x ≡ test x
  apart : AreApart from spans
  within : All (λ span. span.to ≤ to) spans

apart_lower : (low : ℕ) (spans : List Span) → AreApart (low + 1) spans → AreApart low spans
apart_lower low [] apart = tt
apart_lower low (span ∷ spans) apart = (let first = apart.0 in omega (arith, first), apart.1, apart.2)

before_span : (span : Span) (x : ℕ) → x < span.from → is_in x span ≡ false
before_span span x low = grind (arith, nat_tests, low)

none_below : (low : ℕ) (spans : List Span) (x : ℕ) → AreApart low spans → x < low → is_in_some spans x ≡ false
none_below low [] x apart below = refl
none_below low (span ∷ spans) x apart below =
    ap (λ (b : Bool). b || is_in_some spans x) (before_span span x (let first = apart.0 in omega (arith, first, below)))
    ∙ none_below (suc span.to) spans x apart.2 (let first = apart.0 in let some = apart.1 in omega (arith, first, some, below))

alone : (at x : ℕ) → is_in x (record { from = at; to = at + 1 }) ≡ nat_eq x at
alone at x = grind (arith, nat_tests)

longer : (at x to : ℕ) → at + 1 < to → is_in x (record { from = at; to = to }) ≡ (nat_eq x at || is_in x (record { from = at + 1; to = to }))
longer at x to some = grind (arith, nat_tests, some)

or_join : (a b c : Bool) → ((a || b) || c) ≡ (a || (b || c))
or_join true b c = refl
or_join false b c = refl

or_nothing : (a : Bool) → (a || false) ≡ a
or_nothing true = refl
or_nothing false = refl

told_more : (at : ℕ) (spans : List Span) (x : ℕ) → AreApart (at + 1) spans → is_in_some (with_second at spans) x ≡ (nat_eq x at || is_in_some spans x)
told_more at [] x apart = or_nothing (is_in x (record { from = at; to = at + 1 })) ∙ alone at x ∙ sym (or_nothing (nat_eq x at))
told_more at (span ∷ spans) x apart = by (nat_eq span.from (at + 1)) refl
  where
    by : (b : Bool) → nat_eq span.from (at + 1) ≡ b
        → is_in_some (cond b (record { from = at; to = span.to } ∷ spans) (record { from = at; to = at + 1 } ∷ span ∷ spans)) x ≡ (nat_eq x at || is_in_some (span ∷ spans) x)
    by true is =
        let same : span.from ≡ at + 1 = grind (arith, nat_tests, is) in
        let some : span.from < span.to = apart.1 in
        ap (λ (b : Bool). b || is_in_some spans x)
        (longer at x span.to (omega (arith, some, same)) ∙ ap (λ (n : ℕ). nat_eq x at || is_in x (record { from = n; to = span.to })) (sym same))
        ∙ or_join (nat_eq x at) (is_in x span) (is_in_some spans x)
    by false is = ap (λ (b : Bool). b || is_in_some (span ∷ spans) x) (alone at x)

apart_more : (at : ℕ) (spans : List Span) → AreApart (at + 1) spans → AreApart at (with_second at spans)
apart_more at [] apart = (omega arith, omega arith, tt)
apart_more at (span ∷ spans) apart = by (nat_eq span.from (at + 1)) refl
  where
    first : at + 1 ≤ span.from
    first = apart.0

    some : span.from < span.to
    some = apart.1

    by : (b : Bool) → nat_eq span.from (at + 1) ≡ b
        → AreApart at (cond b (record { from = at; to = span.to } ∷ spans) (record { from = at; to = at + 1 } ∷ span ∷ spans))
    by true is = (omega arith, omega (arith, first, some), apart.2)
    by false is = (omega arith, omega arith, (grind (arith, nat_tests, is, first), apart.1, apart.2))

within_more : (at to : ℕ) (spans : List Span) → at < to → All (λ span. span.to ≤ to) spans → All (λ span. span.to ≤ to) (with_second at spans)
within_more at to [] low all = All-cons (λ s. s.to ≤ to) (record { from = at; to = at + 1 }) [] (omega (arith, low)) (All-nil (λ s. s.to ≤ to))
within_more at to (span ∷ spans) low all = by (nat_eq span.from (at + 1))
  where
    first : span.to ≤ to
    first = All-head (λ s. s.to ≤ to) span spans all

    rest : All (λ s. s.to ≤ to) spans
    rest = All-tail (λ s. s.to ≤ to) span spans all

    by : (b : Bool) → All (λ s. s.to ≤ to) (cond b (record { from = at; to = span.to } ∷ spans) (record { from = at; to = at + 1 } ∷ span ∷ spans))
    by true = All-cons (λ s. s.to ≤ to) (record { from = at; to = span.to }) spans first rest
    by false = All-cons (λ s. s.to ≤ to) (record { from = at; to = at + 1 }) (span ∷ spans) (omega (arith, low)) all

step : (test : ℕ → Bool) (at count : ℕ) (spans : List Span) → AreSpansBetween test (at + 1) (at + 1 + count) spans
    → AreSpansBetween test at (at + suc count) (cond (test at) (with_second at spans) spans)
step test at count spans rest = by (test at) refl
  where
    end : at + 1 + count ≡ at + suc count
    end = omega arith

    within : All (λ span. span.to ≤ at + suc count) spans
    within = subst (λ (n : ℕ). All (λ span. span.to ≤ n) spans) end rest.within

    by : (b : Bool) → test at ≡ b → AreSpansBetween test at (at + suc count) (cond b (with_second at spans) spans)
    by true is = record {
      exact = λ x first last. told_more at spans x rest.apart ∙ elim (cases_eq x at) [
        | inl same ↦ (let yes : nat_eq x at ≡ true = grind (arith, nat_tests, same) in ap (λ (b : Bool). b || is_in_some spans x) yes ∙ sym (ap test same ∙ is))
        | inr other ↦ (let no : nat_eq x at ≡ false = grind (arith, nat_tests, other) in ap (λ (b : Bool). b || is_in_some spans x) no ∙ rest.exact x (omega (arith, first, other)) (omega (arith, last)))
      ];
      apart = apart_more at spans rest.apart;
      within = within_more at (at + suc count) spans (omega arith) within;
    }
    by false is = record {
      exact = λ x first last. elim (cases_eq x at) [
        | inl same ↦ none_below (at + 1) spans x rest.apart (omega (arith, same)) ∙ sym (ap test same ∙ is)
        | inr other ↦ rest.exact x (omega (arith, first, other)) (omega (arith, last))
      ];
      apart = apart_lower at spans rest.apart;
      within = within;
    }

spans_between : (test : ℕ → Bool) (at count : ℕ) → AreSpansBetween test at (at + count) (spans_from test at count)
spans_between test at zero = subst (λ (s : List Span). AreSpansBetween test at (at + 0) s) (sym (none_left test at)) (record {
  exact = λ x first last. absurd (omega (arith, first, last));
  apart = tt;
  within = All-nil (λ s. s.to ≤ at + 0);
})
spans_between test at (suc count) =
    subst (λ (s : List Span). AreSpansBetween test at (at + suc count) s) (sym (one_more test at count))
    (step test at count (spans_from test (at + 1) count) (spans_between test (at + 1) count))

pub spans_are : (test : ℕ → Bool) → AreSpansOf test (spans_from test 0 604800)
spans_are test =
    let spans = spans_between test 0 604800 in
    record { exact = λ at low. spans.exact at (omega arith) low; apart = spans.apart; within = spans.within }

same_spans : (test other : ℕ → Bool) (at count : ℕ) → ((x : ℕ) → at ≤ x → x < at + count → test x ≡ other x)
    → spans_from test at count ≡ spans_from other at count
same_spans test other at zero same = none_left test at ∙ sym (none_left other at)
same_spans test other at (suc count) same =
    one_more test at count
    ∙ ap (λ (b : Bool). cond b (with_second at (spans_from test (at + 1) count)) (spans_from test (at + 1) count)) (same at (omega arith) (omega arith))
    ∙ ap (λ (s : List Span). cond (other at) (with_second at s) s)
    (same_spans test other (at + 1) count (λ x first last. same x (omega (arith, first)) (omega (arith, last))))
    ∙ sym (one_more other at count)

-- of what is told alike of each second of the week the spans are the same
pub same_week : (test other : ℕ → Bool) → ((at : ℕ) → at < 604800 → test at ≡ other at) → spans_from test 0 604800 ≡ spans_from other 0 604800
same_week test other same = same_spans test other 0 604800 (λ x first last. same x last)

-- of nothing there are no spans
pub none_told : (at count : ℕ) → spans_from (λ x. false) at count ≡ []
none_told at zero = none_left (λ x. false) at
none_told at (suc count) = one_more (λ x. false) at count ∙ none_told (at + 1) count
