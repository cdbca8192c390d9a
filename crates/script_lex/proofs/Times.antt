-- How a time begins.
use Rattle.std.proofs.Common.{◌≡◌, ℕ, true, List, [], ◌∷◌, ◌++◌, refl, ◌∙◌, Option, Some, None, append_assoc, ⊎_elim}
use Rattle.std.specs.Str.Parse.{IsNumeral}
use Rattle.script_lex.specs.Bytes.{is_unit}
use Rattle.script_lex.specs.Spelling.{part_text, time_text, IsDigits, IsShortTime, IsTimeText}

pub record TimeStarts (text : List ℕ) : Type 0 where
  pub digits : List ℕ
  pub unit : ℕ
  pub more : List ℕ
  pub numeral : IsNumeral 10 digits
  pub is_unit : is_unit unit ≡ true
  pub is : text ≡ digits ++ unit ∷ more

by_part : (text digits more : List ℕ) (unit : ℕ) → is_unit unit ≡ true → IsNumeral 10 digits → text ≡ (digits ++ unit ∷ []) ++ more → TimeStarts text
by_part text digits more unit e n is = record { digits = digits; unit = unit; more = more; numeral = n; is_unit = e; is = is ∙ append_assoc digits (unit ∷ []) more }

short_starts : (day hour minute second : Option (List ℕ)) (text : List ℕ) → IsDigits day → IsDigits hour → IsShortTime day hour minute second text → TimeStarts text
short_starts (Some d) (Some h) (Some m) None text day hour is = by_part text d ((h ++ 104 ∷ []) ++ m) 119 refl day is
short_starts None (Some h) (Some m) None text day hour is = by_part text h m 104 refl hour is
short_starts day (Some h) (Some m) (Some s) text d hour is = absurd is
short_starts day (Some h) None second text d hour is = absurd is
short_starts day None minute second text d hour is = absurd is

whole_starts : (day hour minute second : Option (List ℕ)) (text : List ℕ) → IsTimeText day hour minute second text → text ≡ time_text day hour minute second → TimeStarts text
whole_starts (Some d) hour minute second text t is = by_part text d (part_text hour 104 ++ (part_text minute 109 ++ part_text second 115)) 119 refl t.day_digits is
whole_starts None (Some h) minute second text t is = by_part text h (part_text minute 109 ++ part_text second 115) 104 refl t.hour_digits is
whole_starts None None (Some m) second text t is = by_part text m (part_text second 115) 109 refl t.minute_digits is
whole_starts None None None (Some s) text t is = record { digits = s; unit = 115; more = []; numeral = t.second_digits; is_unit = refl; is = is }
whole_starts None None None None text t is = absurd (t.some is)

pub time_starts : (day hour minute second : Option (List ℕ)) (text : List ℕ) → IsTimeText day hour minute second text → TimeStarts text
time_starts day hour minute second text t =
    ⊎_elim (λ is. whole_starts day hour minute second text t is) (λ is. short_starts day hour minute second text t.day_digits t.hour_digits is) t.spelled
