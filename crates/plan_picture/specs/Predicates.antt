-- Predicates as a script writes them.
use Rattle.std.specs.Prelude.{ℕ, zero, suc, Bool, true, false, Option, Some, None, List, [], ◌++◌, codes, decimal, length, nat_le, take, if◌then◌else◌}
use Rattle.fixed_text.specs.declared.time_mark.TimeMark.{TimeMark}
use Rattle.time_pred.specs.Predicates.{PredicateTree, OnePredicate, PredicateParts, Always, Never, At, Between, Negated, All, Any, no_parts, first_part}

-- a part of a time mark (such as the hour) as a number with its unit, if it is written; no text where it is left out
abbrev pub part_text : Option ℕ → (unit : List ℕ) → List ℕ
part_text (Some n) unit = decimal n ++ unit
part_text None unit = []

-- a time mark, as a script writes it: those of its parts (day, hour, minute, second) that are written, with their
-- units
abbrev pub mark_text : TimeMark → List ℕ
mark_text mark = (part_text mark.day (codes "w") ++ part_text mark.hour (codes "h"))
    ++ (part_text mark.minute (codes "m") ++ part_text mark.second (codes "s"))

-- an interval of the week from one time mark to another, as a script writes it: `6h-22h`
abbrev pub interval_text : TimeMark → TimeMark → List ℕ
interval_text from to = mark_text from ++ (codes "-" ++ mark_text to)

-- the bracket before a predicate made of several parts, if it stands within another predicate; else nothing
abbrev pub opening : (within : Bool) → List ℕ
opening true = codes "("
opening false = []

-- the bracket behind a predicate made of several parts, if it stands within another predicate; else nothing
abbrev pub closing : (within : Bool) → List ℕ
closing true = codes ")"
closing false = []

-- the word that joins parts of a predicate (`and`, `or`), where it is due: before each part but the one with number 0
abbrev pub before_part : (word : List ℕ) → ℕ → List ℕ
before_part word zero = []
before_part word (suc n) = word

-- a predicate as a script writes it: in brackets where it is an `and` or `or` and stands within another (`within`)
abbrev mutual
  pub pred_text : (within : Bool) → PredicateTree OnePredicate → List ℕ
  pred_text within Always = codes "true"
  pred_text within Never = codes "false"
  pred_text within (At mark) = mark_text mark
  pred_text within (Between from to) = interval_text from to
  pred_text within (Negated p) = codes "not " ++ pred_text true p
  pred_text within (All ps) = opening within ++ (joined (codes " and ") 0 ps ++ closing within)
  pred_text within (Any ps) = opening within ++ (joined (codes " or ") 0 ps ++ closing within)

  -- the parts of a predicate as a script writes them, with this word between them; n is the number of the first of
  -- these among all parts, counted from 0
  pub joined : (word : List ℕ) → ℕ → PredicateTree PredicateParts → List ℕ
  joined word n no_parts = []
  joined word n (first_part p ps) = (before_part word n ++ pred_text true p) ++ joined word (suc n) ps

-- a text as an edge shows it: of one of more than 200 characters the first 200, and how many it has
abbrev pub shown : List ℕ → List ℕ
shown text = if nat_le (length text) 200 then text
    else take 200 text ++ (codes ".. (" ++ decimal (length text) ++ codes " characters)")
