-- The holes of a switch as one text.
use Rattle.std.specs.Prelude.{ℕ, zero, suc, ◌+◌, ◌-◌, min, Bool, false, ◌&&◌, List, [], ◌∷◌, ◌++◌, length, drop, codes, decimal, get_or, nat_eq, nat_le, nat_lt, slice_set, if◌then◌else◌}
use Rattle.week_plan.specs.declared.listing.Round.{Round}
use Rattle.week_plan.specs.declared.span.Span.{Span}
use Rattle.week_plan.specs.Texts.{span_text}

-- Whether the first of these spans is the whole week, from second 0 to 604800.
abbrev pub is_whole : List Span → Bool
is_whole [] = false
is_whole (span ∷ spans) = nat_eq span.from 0 && nat_le 604800 span.to

-- The part of a span before `end`, the end of the day or of the week, as its first and last second (a `Round`, which
-- may later go over that end). None if the span begins at `end` or later.
abbrev pub round_before : (end : ℕ) → Span → List Round
round_before end span = if nat_lt span.from end then record {
  from = span.from;
  last = min span.to end - 1;
} ∷ [] else []

-- The parts of these spans before `end`, the end of the day or of the week, each as its first and last second. Spans
-- that begin at `end` or later are left out.
abbrev pub rounds_before : (end : ℕ) → List Span → List Round
rounds_before end [] = []
rounds_before end (span ∷ spans) = round_before end span ++ rounds_before end spans

-- A span that stands for none, where a list of them is empty: its first and last second are 0.
abbrev pub no_round : Round
no_round = record { from = 0; last = 0 }

-- The first of these spans, each by its first and last second; a span of second 0 where the list is empty.
abbrev pub first_of : List Round → Round
first_of rounds = get_or rounds 0 no_round

-- The last of these spans, each by its first and last second; a span of second 0 where the list is empty.
abbrev pub last_of : List Round → Round
last_of rounds = get_or rounds (length rounds - 1) no_round

-- Whether the last of these spans goes on in the first one over `end`, the end of the day or of the week: there are two
-- at least, the first begins at 0, and the last has the second before `end` as its last.
abbrev pub goes_round : (end : ℕ) → List Round → Bool
goes_round end rounds = nat_le 2 (length rounds)
    && (nat_eq (first_of rounds).from 0 && nat_eq (last_of rounds).last (end - 1))

-- The one span that goes over the end of the day or of the week, in place of the last and the first of these: it begins
-- as the last does and ends as the first does.
abbrev pub over_end : List Round → Round
over_end rounds = record { from = (last_of rounds).from; last = (first_of rounds).last }

-- These spans, where a last and a first one that meet at `end`, the end of the day or of the week, become one, at the
-- place of the last.
abbrev pub joined : (end : ℕ) → List Round → List Round
joined end rounds = if goes_round end rounds then drop 1 (slice_set rounds (length rounds - 1) (over_end rounds))
    else rounds

-- The comma and blank before number k of the spans that are told in a text; nothing before the first, number 0.
abbrev pub comma : (k : ℕ) → List ℕ
comma zero = []
comma (suc k) = codes ", "

-- The text of a span by its first and last second, of each day if `daily` says so, else of the week. A second behind
-- the end of the week is told as its last one.
abbrev pub round_text : (daily : Bool) → Round → List ℕ
round_text daily round = span_text daily (min round.from 604799) (min round.last 604799)

-- The end of a list of spans of which only some are told: ` and N more`, where N is how many are left.
abbrev pub more_text : ℕ → List ℕ
more_text count = codes " and " ++ (decimal count ++ codes " more")

-- The text of a list of spans with commas between them, where the first is number k, from 0: numbers 0 to 7 are told,
-- and of the others how many they are.
abbrev pub rounds_text : (daily : Bool) → (k : ℕ) → List Round → List ℕ
rounds_text daily k [] = []
rounds_text daily k (round ∷ rounds) =
    if nat_eq k 8 then more_text (length (round ∷ rounds))
    else (comma k ++ round_text daily round) ++ rounds_text daily (k + 1) rounds

-- After how many seconds the times that are told come again: 86400 if they are the same on each day (`daily`), and else
-- 604800, a week.
abbrev pub end_of_round : (daily : Bool) → ℕ
end_of_round daily = if daily then 86400 else 604800

-- The end of a text of spans of one day that is the same on each day: `, every day`; nothing for those of a week.
abbrev pub every_text : (daily : Bool) → List ℕ
every_text daily = if daily then codes ", every day" else []

-- The text that tells a user when no case of a `switch` holds, which is in these spans: `at any time`, or the spans, of
-- one day if `daily` says that all are alike.
abbrev pub when_text : (daily : Bool) → List Span → List ℕ
when_text daily spans =
    if is_whole spans then codes "at any time"
    else rounds_text daily 0 (joined (end_of_round daily) (rounds_before (end_of_round daily) spans))
    ++ every_text daily
