-- Classes of bytes.
use Rattle.std.specs.Prelude.{ℕ, Bool, false, ◌&&◌, ◌||◌, ◌==◌, nat_le, List, [], ◌∷◌}
use Rattle.std.specs.Char.{is_ascii_digit, is_ascii_alphabetic}

-- whether a byte is an ASCII letter or `_`, which may begin a name
abbrev pub is_letter : ℕ → Bool
is_letter b = is_ascii_alphabetic b || (b == 95)

-- whether a byte is an ASCII letter, `_` or a digit, which may stand in a name
abbrev pub is_word : ℕ → Bool
is_word b = is_letter b || is_ascii_digit b

-- whether a byte is a space, TAB, CR or LF, which may stand between tokens
abbrev pub is_blank : ℕ → Bool
is_blank b = (b == 32) || (b == 9) || (b == 13) || (b == 10)

-- whether a byte is a quote, `"` or `'`, which opens or closes a text
abbrev pub is_quote : ℕ → Bool
is_quote b = (b == 34) || (b == 39)

-- whether a byte is a unit of a time of the week: `w`, `h`, `m` or `s`
abbrev pub is_unit : ℕ → Bool
is_unit b = (b == 119) || ((b == 104) || ((b == 109) || (b == 115)))

-- whether a byte may stand behind a backslash in a text: `"`, `'` or a backslash
abbrev pub is_escapable : ℕ → Bool
is_escapable b = (b == 34) || ((b == 39) || (b == 92))

-- whether a byte may stand in a quoted text, the quotes and the backslash aside: 32 to 126, or above 127
abbrev pub is_inner : ℕ → Bool
is_inner b = (nat_le 32 b && nat_le b 126) || nat_le 128 b

-- whether the bytes begin with a letter or `_`, with which a part of a dotted name begins
abbrev pub starts_part : List ℕ → Bool
starts_part [] = false
starts_part (b ∷ bs) = is_letter b

-- whether the bytes begin with a digit
abbrev pub starts_digit : List ℕ → Bool
starts_digit [] = false
starts_digit (b ∷ bs) = is_ascii_digit b
