-- Spans of the week, in seconds since Monday at 00:00:00, and the holes of a switch.
use Rattle.std.specs.Prelude.{◌≡◌, ◌<◌, ◌≤◌, ℕ, suc, ◌+◌, ⊤, Bool, not, ◌&&◌, nat_lt, nat_le, if◌then◌else◌, List, [], ◌∷◌, ◌++◌, All}
use Rattle.std.specs.List.{list_any}
use Rattle.time_pred.specs.Predicates.{Predicate, holds}
use Rattle.week_plan.specs.declared.span.Span.{Span}

-- Whether a second of the week lies in a span: from its first second on, and before its end.
abbrev pub is_in : (at : ℕ) → Span → Bool
is_in at span = nat_le span.from at && nat_lt at span.to

-- Whether a second of the week lies in one of these spans.
abbrev pub is_in_some : List Span → (at : ℕ) → Bool
is_in_some spans at = list_any (is_in at) spans

-- These spans are in order and do not touch: the first begins at `low` or later, none is empty, and a second at least
-- lies between each and the next.
abbrev pub AreApart : (low : ℕ) → List Span → Type 0
AreApart low [] = ⊤
AreApart low (span ∷ spans) = (low ≤ span.from) × (span.from < span.to) × AreApart (suc span.to) spans

-- These spans have exactly the seconds of the week of which the test is true. They are in order, and each is as long as
-- it can be.
pub record AreSpansOf (test : ℕ → Bool) (spans : List Span) : Type 0 where
  pub exact : (at : ℕ) → at < 604800 → is_in_some spans at ≡ test at
  pub apart : AreApart 0 spans
  pub within : All (λ span. span.to ≤ 604800) spans

-- Whether the predicate of some case of a `switch` holds at this second of the week, so that the switch may play that
-- case.
abbrev pub some_case_holds : List Predicate → (at : ℕ) → Bool
some_case_holds preds at = list_any (λ pred. holds pred at) preds

-- These spans are the times of the week at which no predicate of a `switch` holds.
abbrev pub AreHoles : List Predicate → List Span → Type 0
AreHoles preds spans = AreSpansOf (λ at. not (some_case_holds preds at)) spans

-- The test of seconds of the week has the same `answer` for each second from `from` on and before `to`.
abbrev pub IsFor : (ℕ → Bool) → (from to : ℕ) → Bool → Type 0
IsFor test from to answer = (at : ℕ) → from ≤ at → at < to → test at ≡ answer

-- These spans, and behind them one more that begins at second `from` and ends before `to`; none more where that is
-- empty.
abbrev pub with_span : List Span → (from to : ℕ) → List Span
with_span spans from to = if nat_lt from to then spans ++ record { from = from; to = to } ∷ [] else spans

-- The test of seconds of the week is the same on each day: of a second and of that one day later.
abbrev pub IsDaily : (ℕ → Bool) → Type 0
IsDaily test = (at : ℕ) → at + 86400 < 604800 → test (at + 86400) ≡ test at
