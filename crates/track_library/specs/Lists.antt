-- The names in a list of audio files. `docs/formats.md` has the rules.
use Rattle.std.specs.Prelude.{ℕ, ◌-◌, ◌&&◌, Bool, not, List, [], ◌∷◌, length, take, drop, if◌then◌else◌, nat_eq, slice_index}
use Rattle.std.specs.Str.{bytes_eq, is_utf8}

-- the lines of a text with one more byte before the first line; that byte is a line of its own where there are none
abbrev pub with_first : ℕ → List (List ℕ) → List (List ℕ)
with_first byte [] = (byte ∷ []) ∷ []
with_first byte (line ∷ lines) = (byte ∷ line) ∷ lines

-- the lines of some bytes: each ends before an LF, which is no part of it, or where the bytes end
abbrev pub lines : List ℕ → List (List ℕ)
lines [] = []
lines (byte ∷ bytes) = if nat_eq byte 10 then [] ∷ lines bytes else with_first byte (lines bytes)

-- the bytes of a list file without the UTF-8 byte order mark (EF BB BF), if they begin with it
abbrev pub without_mark : List ℕ → List ℕ
without_mark bytes = if bytes_eq (take 3 bytes) (0xEF ∷ 0xBB ∷ 0xBF ∷ []) then drop 3 bytes else bytes

-- a line of a list of audio files without the CR at its end, if it has one
abbrev pub without_cr : List ℕ → List ℕ
without_cr line = if bytes_eq (drop (length line - 1) line) (13 ∷ []) then take (length line - 1) line else line

-- whether a line of a list is the name of an audio file: UTF-8 that is not empty, and no comment, which begins with
-- `#`
abbrev pub is_name : List ℕ → Bool
is_name line = not (nat_eq (length line) 0) && not (nat_eq (slice_index line 0) 35) && is_utf8 line

-- the names among these lines, without the CR at their ends
abbrev pub names_among : List (List ℕ) → List (List ℕ)
names_among [] = []
names_among (line ∷ lines) = if is_name (without_cr line) then without_cr line ∷ names_among lines
    else names_among lines

-- the names of audio files in the bytes of a list file, line by line
abbrev pub names_listed : List ℕ → List (List ℕ)
names_listed bytes = names_among (lines (without_mark bytes))
