-- What the words of a call ask for.
use Rattle.std.specs.Prelude.{◌≡◌, ℕ, List, [], ◌∷◌, codes, map, string_bytes, String, Option, Some, None, if◌then◌else◌}
use Rattle.std.specs.Str.{bytes_eq}
use Rattle.std.specs.declared.alloc.Global.{Global}
use Rattle.about_cli.specs.declared.verb.Question.TheVariants.{Week, Picture, Files, Hours, Tokens}
use Rattle.about_cli.specs.declared.verb.Verb.{Verb}
use Rattle.about_cli.specs.declared.verb.Verb.TheVariants.{Where, Tell}

-- the bytes of each word of a call
abbrev pub texts : List (String Global) → List (List ℕ)
texts words = map string_bytes words

-- the verb, such as `week`, that a word of a call spells, if it spells one
abbrev pub verb_of : List ℕ → Option Verb
verb_of word =
    if bytes_eq word (codes "where") then Some Where
    else if bytes_eq word (codes "week") then Some (Tell Week)
    else if bytes_eq word (codes "picture") then Some (Tell Picture)
    else if bytes_eq word (codes "files") then Some (Tell Files)
    else if bytes_eq word (codes "hours") then Some (Tell Hours)
    else if bytes_eq word (codes "tokens") then Some (Tell Tokens)
    else None

-- The words of a call are two: the first spells the verb, and the second is `file`, the name of a script.
pub record AsksFor (words : List (List ℕ)) (verb : Verb) (file : List ℕ) : Type 0 where
  pub word : List ℕ
  pub two : words ≡ word ∷ file ∷ []
  pub is_verb : verb_of word ≡ Some verb

-- the words of a call are not a verb and a name, so that the program does not know what is asked
abbrev pub HasNoForm : List (List ℕ) → Type 0
HasNoForm words = (verb : Verb) (file : List ℕ) → AsksFor words verb file → ⊥

-- the line that a call prints if its words have no form
abbrev pub usage_line : List ℕ
usage_line = codes "usage: about where|week|picture|files|hours|tokens FILE\n"
