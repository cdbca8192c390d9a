-- Tables of the week: a word for each minute, and a bit of it for each second.
use Rattle.std.specs.Prelude.{◌≡◌, ◌<◌, ℕ, zero, suc, ◌+◌, ◌/◌, ◌%◌, ◌^◌, Bool, not, ◌&&◌, ◌||◌, List, length, get_or, nat_eq, if◌then◌else◌}
use Rattle.std.specs.Int.{bit_at}
use Rattle.week_plan.specs.declared.table.Way.{Way}
use Rattle.week_plan.specs.declared.table.Way.TheVariants.{Both, Either, Without}

-- Whether a second of a minute, from 0 to 59, is in the set that a word has: a bit for each second.
abbrev pub is_set : (word second : ℕ) → Bool
is_set word second = nat_eq (bit_at word second) 1

-- Whether a second of the week is in the set that a table has: a word for each minute, and in it a bit for each second.
abbrev pub is_told : List ℕ → (at : ℕ) → Bool
is_told words at = is_set (get_or words (at / 60) 0) (at % 60)

-- These words are a table of the week: one for each of the 10080 minutes, with a bit for each of its 60 seconds.
pub record IsTable (words : List ℕ) : Type 0 where
  pub size : length words ≡ 10080
  pub small : (minute : ℕ) → get_or words minute 0 < 2 ^ 60

-- These words are the table of the seconds of the week of which the test is true: a word for each minute, and in it a
-- bit for each second.
pub record IsTableOf (test : ℕ → Bool) (words : List ℕ) : Type 0 where
  pub table : IsTable words
  pub same : (at : ℕ) → at < 604800 → is_told words at ≡ test at

-- Whether a second is in the set that two tables make together, by whether it is in the `one` and in the `other`: in
-- both, in either, or in the one without the other.
abbrev pub joined : Way → (one other : Bool) → Bool
joined Both one other = one && other
joined Either one other = one || other
joined Without one other = one && not other

-- Of how many of the first n seconds of the week the test is true.
unfoldable pub how_many : (ℕ → Bool) → (n : ℕ) → ℕ
how_many test zero = 0
how_many test (suc n) = how_many test n + (if test n then 1 else 0)
