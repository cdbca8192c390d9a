-- The parts of a time as the program holds them.
use Rattle.std.specs.Prelude.{ℕ, List, Option, Some, None, option_map}
use Rattle.std.specs.Borrow.{Bor}
use Rattle.std.specs.Str.Parse.{AllDigits}
use Rattle.fixed_text.specs.declared.time_mark.TimeMark.{TimeMark}
use Rattle.script_lex.specs.Spelling.{Shape, ATime, mark_of}
use Rattle.script_lex.specs.declared.time.Parts.{Parts}

-- the digits of one part of a time of the week, such as the hour, as plain data; None if the time lacks the part
abbrev pub digits_in : Option (Bor (List ℕ)) → Option (List ℕ)
digits_in = option_map (λ digits. digits.now)

-- one part of a time of the week, such as the hour, is all digits; a part that the time lacks passes
abbrev pub AreDigits : Option (List ℕ) → Type 0
AreDigits None = Unit {0}
AreDigits (Some digits) = AllDigits 10 digits

-- each part of a time of the week, day, hour, minute and second, is all digits, if the time has the part
abbrev pub HasDigits : Parts → Type 0
HasDigits parts = AreDigits (digits_in parts.day) × AreDigits (digits_in parts.hour)
    × AreDigits (digits_in parts.minute) × AreDigits (digits_in parts.second)

-- the shape of a time of the week, such as `1w12h30m`, that these parts make
abbrev pub time_of : Parts → Shape
time_of parts = ATime (digits_in parts.day) (digits_in parts.hour) (digits_in parts.minute) (digits_in parts.second)

-- the time of the week, as numbers, that these parts mean
abbrev pub mark_in : Parts → TimeMark
mark_in parts = mark_of (digits_in parts.day) (digits_in parts.hour) (digits_in parts.minute) (digits_in parts.second)
