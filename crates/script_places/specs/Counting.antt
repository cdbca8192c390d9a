-- The line and the column of a place, by the bytes before it. Both count from 1.
use Rattle.std.specs.Prelude.{ℕ, zero, suc, ◌+◌, ◌-◌, Bool, not, ◌&&◌, ◌==◌, nat_le, List, [], ◌∷◌, length, take, drop, if◌then◌else◌}
use Rattle.std.specs.List.{count_by, suffix_len}
use Rattle.std.specs.Str.{is_utf8}

-- Whether the byte is a line feed, which ends a line.
abbrev pub is_lf : ℕ → Bool
is_lf b = b == 10

-- Whether the byte is any but a line feed, so that it lies within a line.
abbrev pub is_no_lf : ℕ → Bool
is_no_lf b = not (is_lf b)

-- The number of the line, from 1, of a place in a text, by the bytes before it: one more for each line feed.
abbrev pub line : List ℕ → ℕ
line before = count_by is_lf before + 1

-- Whether there are n bytes at the front of these, and they are UTF-8.
unfoldable pub are_utf8 : ℕ → List ℕ → Bool
are_utf8 n bytes = nat_le n (length bytes) && is_utf8 (take n bytes)

-- How many bytes the first character of a text has: 1 to 4, the shortest front that is UTF-8. A byte with which no
-- character begins counts as one.
unfoldable pub width : List ℕ → ℕ
width bytes = if are_utf8 1 bytes then 1 else (if are_utf8 2 bytes then 2
    else (if are_utf8 3 bytes then 3 else (if are_utf8 4 bytes then 4 else 1)))

-- The first byte of each character that begins in these bytes, of which the first `inside` still belong to a character
-- that began before.
unfoldable pub begun : ℕ → List ℕ → List ℕ
begun inside [] = []
begun zero (b ∷ bs) = b ∷ begun (width (b ∷ bs) - 1) bs
begun (suc n) (b ∷ bs) = begun n bs

-- The first byte of each character of a text; a byte that begins none counts as one.
abbrev pub characters : List ℕ → List ℕ
characters bytes = begun 0 bytes

-- The part of the line that stands before a place, by the bytes before it: those behind the last line feed.
abbrev pub in_line : List ℕ → List ℕ
in_line before = drop (length before - suffix_len is_no_lf before) before

-- The column of a place in a text, in characters from 1, by the bytes before it: one more for each character of its
-- line.
abbrev pub column : List ℕ → ℕ
column before = length (characters (in_line before)) + 1
