-- The two lines that show a place: FILE:LINE:COLUMN, the line's text without its leading blanks, and a caret below the
-- place, with a word where it is a byte order mark.
use Rattle.std.specs.Prelude.{ℕ, ◌-◌, Bool, ◌&&◌, ◌||◌, ◌==◌, List, [], ◌∷◌, ◌++◌, length, map, take, drop, codes, decimal, if◌then◌else◌}
use Rattle.std.specs.List.{prefix_len}
use Rattle.std.specs.Str.{bytes_eq}
use Rattle.script_places.specs.Counting.{is_no_lf, line, column, in_line, characters}
use Rattle.script_places.specs.Showing.{is_marked, shown}

-- Whether the byte is a space or a TAB.
abbrev pub is_blank : ℕ → Bool
is_blank b = (b == 32) || (b == 9)

-- The bytes of a line without the spaces and TABs at its begin.
abbrev pub trimmed : List ℕ → List ℕ
trimmed bytes = drop (prefix_len is_blank bytes) bytes

-- The rest of the line at the front of these bytes: those before the first line feed, or all.
abbrev pub up_to_lf : List ℕ → List ℕ
up_to_lf bytes = take (prefix_len is_no_lf bytes) bytes

-- A line without the carriage return at its end, if it has one.
abbrev pub without_cr : List ℕ → List ℕ
without_cr line = if bytes_eq (drop (length line - 1) line) (13 ∷ []) then take (length line - 1) line else line

-- The blank that stands below a character that begins with byte b: a TAB below a TAB, so that the columns agree, else a
-- space.
abbrev pub blank_for : ℕ → ℕ
blank_for b = if b == 9 then 9 else 32

-- The blanks that stand below these bytes of a line, one for each character, so that a caret behind them is below what
-- comes next.
abbrev pub blanks_for : List ℕ → List ℕ
blanks_for bytes = map blank_for (characters bytes)

-- The begin of the line that shows a place of the script `file`: `FILE:LINE:COLUMN: `. The line and the column follow
-- from `before`, the bytes of the script before the place.
abbrev pub head : List ℕ → List ℕ → List ℕ
head file before = file ++ codes ":" ++ decimal (line before) ++ codes ":" ++ decimal (column before) ++ codes ": "

-- The part before the place of a fault that is shown of its line: what stands there before byte `at` of the text,
-- without leading blanks, and with control characters by their numbers.
abbrev pub front : List ℕ → ℕ → List ℕ
front text at = shown (trimmed (in_line (take at text)))

-- The end of the second line that shows byte `at` of the text: a caret below it, and a word of advice where it is a
-- byte order mark.
abbrev pub caret : List ℕ → ℕ → List ℕ
caret text at = if (at == 0) && is_marked text then codes "^ a byte order mark: save the script without it\n"
    else codes "^\n"

-- The two lines that show byte `at` of a script, counted from 0: `FILE:LINE:COLUMN: ` with the text of its line, and a
-- caret below the byte.
abbrev pub pointer : List ℕ → List ℕ → ℕ → List ℕ
pointer file text at =
    head file (take at text) ++ front text at ++ shown (without_cr (up_to_lf (drop at text))) ++ codes "\n"
    ++ blanks_for (head file (take at text)) ++ blanks_for (front text at) ++ caret text at
