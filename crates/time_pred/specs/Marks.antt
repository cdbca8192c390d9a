-- The time marks of a script, and when they hold. Times are in seconds since Monday at 00:00:00.
use Rattle.std.specs.Prelude.{◌≡◌, ◌<◌, ℕ, zero, suc, ◌+◌, ◌*◌, ◌%◌, max, Bool, ◌&&◌, ◌||◌, nat_lt, nat_le, if◌then◌else◌, pos, ◌-ℤ◌, unsigned_abs, unwrap_or, is_some}
use Rattle.std.specs.Int.{int_rem_euclid}
use Rattle.std.specs.Option.{option_map_or}
use Rattle.fixed_text.specs.declared.time_mark.TimeMark.{TimeMark}

-- how many days of the week come before this day: Monday is day 1, and Sunday is both day 7 and day 0
abbrev pub days_before : ℕ → ℕ
days_before zero = 6
days_before (suc d) = d

-- the time that a mark names, in seconds since its period began: the sum of its day, hour, minute and second
abbrev pub value_of : TimeMark → ℕ
value_of m = option_map_or days_before m.day 0 * 86400 + unwrap_or m.hour 0 * 3600 + unwrap_or m.minute 0 * 60
    + unwrap_or m.second 0

-- the period of a mark, by its coarsest part: a week for a day, a day for an hour, an hour for a minute, a minute for a
-- second
abbrev pub period_of : TimeMark → ℕ
period_of m = if is_some m.day then 604800 else if is_some m.hour then 86400 else if is_some m.minute then 3600 else 60

-- for how many seconds a mark alone holds: the length of the finest part that it names, a day, an hour, a minute or a
-- second
abbrev pub finest_of : TimeMark → ℕ
finest_of m = if is_some m.second then 1 else if is_some m.minute then 60 else if is_some m.hour then 3600 else 86400

-- Whether a time mark of a script that stands alone, as `9h`, holds at second `at` of the week. It holds from the time
-- that it names, for a day, an hour, a minute or a second, by its finest part. It does so again in each of its periods.
abbrev pub is_at : TimeMark → ℕ → Bool
is_at m at = nat_lt (unsigned_abs (int_rem_euclid (pos (at % period_of m) -ℤ pos (value_of m)) (pos (period_of m))))
    (finest_of m)

-- whether x lies in the interval from a to b, without b; where b comes before a, the interval goes from a around the
-- end of the period to b
abbrev pub is_in_interval : ℕ → ℕ → ℕ → Bool
is_in_interval a b x = if nat_le a b then nat_le a x && nat_lt x b else nat_le a x || nat_lt x b

-- whether the interval from one time mark of a script to another, as `9h-17h`, holds at second `at` of the week,
-- around the longer of their two periods
abbrev pub is_between : TimeMark → TimeMark → ℕ → Bool
is_between from to at = is_in_interval (value_of from) (value_of to) (at % max (period_of from) (period_of to))

-- From second `at` of the week on, this test of seconds of the week keeps its answer for so many seconds. After the
-- last second of the week comes its first.
abbrev pub Stays : (ℕ → Bool) → (at seconds : ℕ) → Type 0
Stays test at seconds = (j : ℕ) → j < seconds → test ((at + j) % 604800) ≡ test at
