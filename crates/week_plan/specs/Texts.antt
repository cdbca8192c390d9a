-- When the holes of a switch are, for people.
use Rattle.std.specs.Prelude.{ℕ, zero, suc, ◌+◌, ◌/◌, ◌%◌, Bool, true, false, ◌&&◌, List, [], ◌++◌, codes, decimal, nat_eq, nat_lt, if◌then◌else◌}

-- The text of a number below 100 in two digits, such as `07`.
abbrev pub two_digits : ℕ → List ℕ
two_digits n = decimal (n / 10) ++ decimal (n % 10)

-- The end of a time of the day that is not on a full minute: a colon and its seconds in two digits; nothing for 0.
abbrev pub seconds_part : ℕ → List ℕ
seconds_part zero = []
seconds_part (suc n) = codes ":" ++ two_digits (suc n)

-- The text of a time of the day, told in seconds since midnight: `HH:MM`, and `:SS` where it is not on a full minute.
-- The end of the day is `24:00`.
abbrev pub clock_text : ℕ → List ℕ
clock_text second = two_digits (second / 3600)
    ++ (codes ":" ++ (two_digits (second / 60 % 60) ++ seconds_part (second % 60)))

-- The short name of a day of the week, from 0 for Monday, and a blank.
unfoldable pub day_text : ℕ → List ℕ
day_text day =
    if nat_eq day 0 then codes "Mon " else if nat_eq day 1 then codes "Tue " else if nat_eq day 2 then codes "Wed "
    else if nat_eq day 3 then codes "Thu "
    else if nat_eq day 4 then codes "Fri " else if nat_eq day 5 then codes "Sat " else codes "Sun "

-- The text of the time at which a span ends, from the last second of the week in it: in the day of that second, so that
-- midnight is `24:00`.
abbrev pub end_text : (last : ℕ) → List ℕ
end_text last = clock_text (last % 86400 + 1)

-- The text of a span that comes back on each day, by its first and last second: `HH:MM-HH:MM`.
abbrev pub daily_text : (from last : ℕ) → List ℕ
daily_text from last = clock_text (from % 86400) ++ (codes "-" ++ end_text last)

-- Whether a span of the week, by its first and last second, begins and ends on the same day.
abbrev pub is_one_day : (from last : ℕ) → Bool
is_one_day from last = nat_eq (from / 86400) (last / 86400) && nat_lt from (last + 1)

-- The name of the day on which a span of the week ends; nothing where it begins on the same day. The span is given by
-- its first and last second.
abbrev pub end_day : (from last : ℕ) → List ℕ
end_day from last = if is_one_day from last then [] else day_text (last / 86400)

-- The text of a span of the week, by its first and last second: `Mon HH:MM-Tue HH:MM`, where the second day is told if
-- it is another. It goes round the end of the week if the last second comes before the first.
abbrev pub weekly_text : (from last : ℕ) → List ℕ
weekly_text from last = (day_text (from / 86400) ++ clock_text (from % 86400))
    ++ (codes "-" ++ (end_day from last ++ end_text last))

-- The text of a span by its first and last second: of each day if `daily` is true, and else of the week with the names
-- of days.
abbrev pub span_text : (daily : Bool) → (from last : ℕ) → List ℕ
span_text true from last = daily_text from last
span_text false from last = weekly_text from last
