-- How a text is shown at a terminal: the bytes of a character that would drive it, or that nobody would see, by their
-- numbers.
use Rattle.std.specs.Prelude.{ℕ, zero, suc, ◌+◌, ◌-◌, ◌/◌, ◌%◌, Bool, true, false, not, ◌&&◌, ◌||◌, ◌==◌, nat_le, nat_lt, List, [], ◌∷◌, ◌++◌, take, if◌then◌else◌}
use Rattle.std.specs.Str.{bytes_eq}
use Rattle.script_places.specs.Counting.{width}

-- Whether a byte is that of a control character other than a TAB, as it would drive a terminal: below 32, or from 127
-- to 159.
abbrev pub is_control : ℕ → Bool
is_control b = (nat_lt b 32 && not (b == 9)) || (nat_le 127 b && nat_lt b 160)

-- Whether the second of these bytes is there and is a control byte other than a TAB.
abbrev pub has_control_next : List ℕ → Bool
has_control_next [] = false
has_control_next (b ∷ []) = false
has_control_next (b ∷ c ∷ bs) = is_control c

-- Whether a text begins with the three bytes of the byte order mark.
abbrev pub is_marked : List ℕ → Bool
is_marked bytes = bytes_eq (take 3 bytes) (0xEF ∷ 0xBB ∷ 0xBF ∷ [])

-- Whether these bytes begin with a character that a terminal is not shown as it is: a control byte, the byte order
-- mark, or a control character from U+0080 on, whose first byte is 194.
unfoldable pub is_hidden : List ℕ → Bool
is_hidden [] = false
is_hidden (b ∷ bs) = is_control b || (b == 194 && has_control_next (b ∷ bs)) || is_marked (b ∷ bs)

-- The hexadecimal digit, `0` to `9` or `a` to `f`, of a number below 16, as a byte.
abbrev pub digit : ℕ → ℕ
digit n = if nat_lt n 10 then n + 48 else n + 87

-- How a byte is shown by its number: `\x` and two hexadecimal digits.
abbrev pub escape : ℕ → List ℕ
escape b = 92 ∷ 120 ∷ digit (b / 16) ∷ digit (b % 16) ∷ []

-- How a byte of a character is shown at a terminal: as `\x` and two digits if the character is hidden (`true`), and
-- else as it is.
abbrev pub byte_shown : Bool → ℕ → List ℕ
byte_shown true b = escape b
byte_shown false b = b ∷ []

-- How the bytes of one character are shown at a terminal: each as `\x` and two digits if the character is hidden, and
-- else as they are.
abbrev pub character_shown : Bool → List ℕ → List ℕ
character_shown hidden [] = []
character_shown hidden (b ∷ bs) = byte_shown hidden b ++ character_shown hidden bs

-- How these bytes are shown at a terminal, of which the first `inside` belong to a character that has begun, hidden or
-- not: those of control characters as `\x` and two digits.
unfoldable pub shown_within : ℕ → Bool → List ℕ → List ℕ
shown_within inside hidden [] = []
shown_within zero hidden (b ∷ bs) = byte_shown (is_hidden (b ∷ bs)) b
    ++ shown_within (width (b ∷ bs) - 1) (is_hidden (b ∷ bs)) bs
shown_within (suc n) hidden (b ∷ bs) = byte_shown hidden b ++ shown_within n hidden bs

-- How a text is shown at a terminal: control characters, but for a TAB, and the byte order mark as `\x` and two digits
-- for each byte.
abbrev pub shown : List ℕ → List ℕ
shown bytes = shown_within 0 false bytes
