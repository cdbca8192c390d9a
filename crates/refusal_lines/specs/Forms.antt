-- The forms that lines have.
use Rattle.std.specs.Prelude.{ℕ, List, ◌++◌, codes, decimal}

-- the line of a refusal at a place: a text, and the number of a byte, a token or a line
abbrev pub at_place : List ℕ → ℕ → List ℕ
at_place text place = text ++ codes " " ++ decimal place ++ codes "\n"

-- the line of a refusal that names a file or an output: a text and the name
abbrev pub of_name : List ℕ → List ℕ → List ℕ
of_name text name = text ++ codes " " ++ name ++ codes "\n"

-- the line of a refusal of a statement: its number, as `E12`, the number of the statement, and a text of what is wrong
abbrev pub at_statement : List ℕ → ℕ → List ℕ → List ℕ
at_statement number statement text = number ++ codes " statement " ++ decimal statement ++ codes ": " ++ text
    ++ codes "\n"

-- the line of a refusal at a token of a statement: its number, as `E08`, that of the statement, a text of what is
-- wrong, and the number of the token
abbrev pub at_token : List ℕ → ℕ → List ℕ → ℕ → List ℕ
at_token number statement text token =
    number ++ codes " statement " ++ decimal statement ++ codes ": " ++ text ++ codes " at token " ++ decimal token
    ++ codes "\n"

-- the line of a refusal of an audio file: a text, the name of the file, and the number of what is wrong with it
abbrev pub of_audio : List ℕ → List ℕ → ℕ → List ℕ
of_audio text name number = text ++ codes " " ++ name ++ codes ": " ++ decimal number ++ codes "\n"

-- the line of a refusal of a source in two clocks: a text, the number of the source, and what the two clocks are
-- called
abbrev pub of_clocks : List ℕ → ℕ → List ℕ → List ℕ → List ℕ
of_clocks text node first second =
    text ++ codes " " ++ decimal node ++ codes " under clocks " ++ first ++ codes " and " ++ second ++ codes "\n"
