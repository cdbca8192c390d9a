-- The texts of numbers and of times.
use Rattle.std.specs.Prelude.{◌≡◌, ℕ, ◌+◌, ◌-◌, ◌*◌, ◌/◌, ◌%◌, ◌^◌, ◌≤◌, List, [], ◌∷◌, ◌++◌, length, Bool, false, not, ◌&&◌, ◌==◌, ℤ, unsigned_abs}
use Rattle.std.specs.Char.{is_ascii_digit}
use Rattle.std.specs.List.{list_all}
use Rattle.std.specs.Str.Parse.{IsNumeral, AllDigits, digits_value}

-- the millionths that a decimal text writes: `whole` are the digits before its point, and `fraction` those behind it,
-- at most six
abbrev pub millionths : List ℕ → List ℕ → ℕ
millionths whole fraction = digits_value 10 whole * 1000000 + digits_value 10 fraction * 10 ^ (6 - length fraction)

-- a decimal text writes this many millionths: digits, a point and at most six digits, for at most 10 ^ 15 millionths
pub record IsDecimalText (text : List ℕ) (value : ℕ) : Type 0 where
  pub whole : List ℕ
  pub fraction : List ℕ
  pub spelled : text ≡ whole ++ 46 ∷ fraction
  pub numeral : IsNumeral 10 whole
  pub digits : AllDigits 10 fraction
  pub short : length fraction ≤ 6
  pub bounded : value ≤ 10 ^ 15
  pub means : value ≡ millionths whole fraction

-- whether a text is a whole number as it is printed: digits, at least one, without a leading zero
abbrev pub is_plain : List ℕ → Bool
is_plain [] = false
is_plain (b ∷ []) = is_ascii_digit b
is_plain (b ∷ c ∷ bs) = not (b == 48) && list_all is_ascii_digit (b ∷ c ∷ bs)

-- how many whole samples a time of so many millionths of a second lasts at `rate` samples a second
abbrev pub samples_in : ℤ → ℕ → ℕ
samples_in millionths rate = unsigned_abs millionths * rate / 10 ^ 6

-- a number below 100 as two digits, so that 7 is `07`
abbrev pub two_digits : ℕ → List ℕ
two_digits n = (48 + n / 10) ∷ (48 + n % 10) ∷ []

-- The text `D:HH:MM:SS` writes the second `at` of the week: a day from 1, which is Monday, and the hour, minute and
-- second of that day.
pub record IsStartText (text : List ℕ) (at : ℕ) : Type 0 where
  pub day : ℕ
  pub hour : ℕ
  pub minute : ℕ
  pub second : ℕ
  pub days : (1 ≤ day) × (day ≤ 7)
  pub hours : hour ≤ 23
  pub minutes : minute ≤ 59
  pub seconds : second ≤ 59
  pub spelled : text ≡ ((48 + day) ∷ 58 ∷ two_digits hour) ++ (58 ∷ two_digits minute) ++ (58 ∷ two_digits second)
  pub means : at ≡ (day - 1) * 86400 + hour * 3600 + minute * 60 + second
