-- A walk over the week, and the spans that it leaves.
use Rattle.std.proofs.Common.{◌≡◌, ◌<◌, ◌≤◌, ◌∙◌, ℕ, suc, Bool, true, false, cond, ◌||◌, List, [], ◌∷◌, ◌++◌, arith, refl, ap, sym, subst, inl, inr}
use Rattle.std.specs.Prelude.{All, nat_lt}
use Rattle.std.proofs.Math.Bool.{or-true, or-false}
use Rattle.std.proofs.lemmas.Bool.{cases_lt}
use Rattle.std.proofs.lemmas.Bool.Decides.{nat_tests}
use Rattle.std.proofs.lemmas.List.Elements.{All-head, All-nil, All-push, All-tail, All-weaker}
use Rattle.std.proofs.lemmas.List.Folds.{list_any-append}
use Rattle.week_plan.specs.declared.span.Span.{Span}
use Rattle.week_plan.specs.Spans.{AreApart, AreSpansOf, IsFor, is_in, is_in_some, with_span}

-- these are the spans of what is told of the seconds before `since`, and it is told of each second from there up to `at`
pub record IsWalked (test : ℕ → Bool) (spans : List Span) (since at : ℕ) : Type 0 where
  pub order : since ≤ at
  pub within : at ≤ 604800
  pub exact : (x : ℕ) → x < since → is_in_some spans x ≡ test x
  pub told : IsFor test since at true
  pub apart : AreApart 0 spans
  pub below : All (λ span. span.to < since) spans

-- these are the spans of what is told of the seconds before `at`
pub record AreSpansTo (test : ℕ → Bool) (spans : List Span) (at : ℕ) : Type 0 where
  pub exact : (x : ℕ) → x < at → is_in_some spans x ≡ test x
  pub apart : AreApart 0 spans
  pub below : All (λ span. span.to ≤ at) spans

pub in_span : (from to x : ℕ) → from ≤ x → x < to → is_in x (record { from = from; to = to }) ≡ true
in_span from to x first last = grind (arith, nat_tests, first, last)

pub before_span : (from to x : ℕ) → x < from → is_in x (record { from = from; to = to }) ≡ false
before_span from to x low = grind (arith, nat_tests, low)

pub behind_span : (span : Span) (x : ℕ) → span.to ≤ x → is_in x span ≡ false
behind_span span x high = grind (arith, nat_tests, high)

behind : (spans : List Span) (x : ℕ) → All (λ span. span.to ≤ x) spans → is_in_some spans x ≡ false
behind [] x all = refl
behind (span ∷ spans) x all =
    ap (λ (b : Bool). b || is_in_some spans x) (behind_span span x (All-head (λ s. s.to ≤ x) span spans all))
    ∙ behind spans x (All-tail (λ s. s.to ≤ x) span spans all)

apart_more : (low : ℕ) (spans : List Span) (span : Span) → AreApart low spans → All (λ s. s.to < span.from) spans → low ≤ span.from → span.from < span.to
    → AreApart low (spans ++ span ∷ [])
apart_more low [] span apart below first some = (first, some, tt)
apart_more low (s ∷ spans) span apart below first some =
    (apart.0, apart.1, apart_more (suc s.to) spans span apart.2 (All-tail (λ r. r.to < span.from) s spans below) (let last : s.to < span.from = All-head (λ r. r.to < span.from) s spans below in omega (arith, last)) some)

pub started : (test : ℕ → Bool) (spans : List Span) → spans ≡ [] → IsWalked test spans 0 0
started test spans none = subst (λ (s : List Span). IsWalked test s 0 0) (sym none) (record {
  order = omega arith;
  within = omega arith;
  exact = λ x low. absurd (omega (arith, low));
  told = λ x first last. absurd (omega (arith, last));
  apart = tt;
  below = All-nil (λ s. s.to < 0);
})

-- what was walked, and the span at its end
pub closed : (test : ℕ → Bool) (spans : List Span) (since at : ℕ) → IsWalked test spans since at → AreSpansTo test (with_span spans since at) at
closed test spans since at w = by (nat_lt since at) refl
  where
    span : Span
    span = record { from = since; to = at }

    exact_more : (x : ℕ) → x < at → is_in_some (spans ++ span ∷ []) x ≡ test x
    exact_more x low = list_any-append (is_in x) spans (span ∷ []) ∙ elim (cases_lt x since) [
      | inl before ↦ ap (λ (b : Bool). is_in_some spans x || (b || false)) (before_span since at x before) ∙ or-false (is_in_some spans x) ∙ w.exact x before
      | inr first ↦ ap (λ (b : Bool). is_in_some spans x || (b || false)) (in_span since at x first low) ∙ or-true (is_in_some spans x) ∙ sym (w.told x first low)
    ]

    by : (b : Bool) → nat_lt since at ≡ b → AreSpansTo test (cond b (spans ++ span ∷ []) spans) at
    by true is =
        let some : since < at = grind (arith, nat_tests, is) in
        record {
          exact = exact_more;
          apart = apart_more 0 spans span w.apart w.below (omega arith) some;
          below = All-push (λ s. s.to ≤ at) spans span (All-weaker (λ s. s.to < since) (λ s. s.to ≤ at) (λ s low. omega (arith, low, some)) spans w.below) (omega arith);
        }
    by false is =
        let none : at ≤ since = grind (arith, nat_tests, is) in
        record {
          exact = λ x low. w.exact x (omega (arith, low, none));
          apart = w.apart;
          below = All-weaker (λ s. s.to < since) (λ s. s.to ≤ at) (λ s low. omega (arith, low, w.order)) spans w.below;
        }

-- it is not told from one second up to another
pub passed : (test : ℕ → Bool) (spans : List Span) (since at next : ℕ) → IsWalked test spans since at → at < next → next ≤ 604800 → IsFor test at next false
    → IsWalked test (with_span spans since at) next next
passed test spans since at next w later within told =
    let s = closed test spans since at w in
    record {
      order = omega arith;
      within = within;
      exact = λ x low. elim (cases_lt x at) [
        | inl before ↦ s.exact x before
        | inr first ↦ behind (with_span spans since at) x (All-weaker (λ r. r.to ≤ at) (λ r. r.to ≤ x) (λ r end. omega (arith, end, first)) (with_span spans since at) s.below) ∙ sym (told x first low)
      ];
      told = λ x first last. absurd (omega (arith, first, last));
      apart = s.apart;
      below = All-weaker (λ r. r.to ≤ at) (λ r. r.to < next) (λ r end. omega (arith, end, later)) (with_span spans since at) s.below;
    }

-- at the end of the week
pub finished : (test : ℕ → Bool) (spans : List Span) (since at : ℕ) → IsWalked test spans since at → 604800 ≤ at → AreSpansOf test (with_span spans since 604800)
finished test spans since at w end =
    let is : at ≡ 604800 = omega (arith, end, w.within) in
    let s : AreSpansTo test (with_span spans since 604800) 604800 = subst (λ (n : ℕ). AreSpansTo test (with_span spans since n) n) is (closed test spans since at w) in
    record { exact = s.exact; apart = s.apart; within = s.below }
