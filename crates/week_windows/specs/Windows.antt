-- The windows of the cases of a switch: for how long each of them is the first that holds.
use Rattle.std.specs.Prelude.{ℕ, zero, suc, ◌+◌, ◌-◌, min, max, Bool, not, ◌&&◌, List, [], ◌∷◌, length, map, nat_eq, if◌then◌else◌}
use Rattle.std.specs.Global.{Vec}
use Rattle.std.specs.List.{list_any}
use Rattle.time_pred.specs.Predicates.{Predicate, holds}
use Rattle.week_plan.specs.Spans.{some_case_holds}
use Rattle.week_plan.specs.declared.span.Span.{Span}
use Rattle.week_windows.specs.declared.windows.Windows.{Windows}

-- The spans of seconds with second `at` more, which is before all of them. If the first span begins one second later,
-- it is made to begin here; otherwise this second is a span of its own.
abbrev pub with_second : (at : ℕ) → List Span → List Span
with_second at [] = record { from = at; to = at + 1 } ∷ []
with_second at (span ∷ spans) =
    if nat_eq span.from (at + 1) then record { from = at; to = span.to } ∷ spans
    else record { from = at; to = at + 1 } ∷ span ∷ spans

-- the spans, each as long as can be, of the seconds that pass the test, among the `count` seconds from `at` on
unfoldable pub spans_from : (ℕ → Bool) → (at count : ℕ) → List Span
spans_from test at zero = []
spans_from test at (suc count) =
    if test at then with_second at (spans_from test (at + 1) count) else spans_from test (at + 1) count

-- how many seconds a window of the week has, by its span; if the span ends with the week, the window goes on at the
-- beginning of the week for `more` seconds
abbrev pub seconds_of : (more : ℕ) → Span → ℕ
seconds_of more span = (span.to - span.from) + (if nat_eq span.to 604800 then more else 0)

-- one of these spans ends with the week
abbrev pub ends_week : List Span → Bool
ends_week spans = list_any (λ span. nat_eq span.to 604800) spans

-- How many seconds each window has that these spans of a week make. A span that ends with the week and one that begins
-- with it are a single window.
abbrev pub lengths_of : List Span → List ℕ
lengths_of [] = []
lengths_of (first ∷ rest) =
    if nat_eq first.from 0 && ends_week rest then map (seconds_of first.to) rest
    else map (seconds_of 0) (first ∷ rest)

-- the least of these numbers and n
abbrev pub least : ℕ → List ℕ → ℕ
least n [] = n
least n (m ∷ ms) = least (min n m) ms

-- the greatest of these numbers and n
abbrev pub greatest : ℕ → List ℕ → ℕ
greatest n [] = n
greatest n (m ∷ ms) = greatest (max n m) ms

-- How many windows there are, and the seconds of the shortest and the longest one; `lengths` has the seconds of each.
-- Without windows all are 0.
abbrev pub in_all : (lengths : List ℕ) → Windows
in_all [] = record { count = 0; shortest = 0; longest = 0 }
in_all (n ∷ ns) = record { count = length ns + 1; shortest = least n ns; longest = greatest n ns }

-- the windows of the week in which each second passes the test: how many there are, the shortest and the longest
abbrev pub windows_of : (ℕ → Bool) → Windows
windows_of test = in_all (lengths_of (spans_from test 0 604800))

-- whether a case of a switch is the first that holds at this second of the week; `earlier` are the predicates of the
-- cases before it
abbrev pub is_first : (earlier : List Predicate) → Predicate → (at : ℕ) → Bool
is_first earlier pred at = holds pred at && not (some_case_holds earlier at)

-- the windows of each of these cases of a switch: the times of the week at which it holds and no case before it does.
-- `earlier` are the cases before them.
abbrev pub case_windows : (earlier : List Predicate) → List Predicate → List Windows
case_windows earlier [] = []
case_windows earlier (pred ∷ preds) = windows_of (is_first earlier pred) ∷ case_windows (pred ∷ earlier) preds

-- for each of these cases of a switch the spans of the week, in seconds, at which it holds and no case before it does.
-- `earlier` are the cases before them.
abbrev pub case_spans : (earlier : List Predicate) → List Predicate → List (List Span)
case_spans earlier [] = []
case_spans earlier (pred ∷ preds) = spans_from (is_first earlier pred) 0 604800 ∷ case_spans (pred ∷ earlier) preds

-- the spans of the week, in seconds, at which no case with one of these predicates holds, so that a switch of them is
-- silent
abbrev pub hole_spans : List Predicate → List Span
hole_spans preds = spans_from (λ at. not (some_case_holds preds at)) 0 604800

-- the spans of seconds that the program keeps for one case of a switch, as a list
abbrev pub spans_in : Vec Span → List Span
spans_in spans = spans.items
