-- Values: one family, of values and of lists of them.
use Rattle.std.specs.Prelude.{ℕ, ◌+◌, ℤ, List, [], ◌∷◌, Bool}
use Rattle.fixed_text.specs.declared.decimal.Decimal.{Decimal}
use Rattle.time_pred.specs.Predicates.{Predicate}

-- The two sorts of trees below: one value of a script, or a list of such values.
pub data ValueSort : Type 0 where
  OneValue : ValueSort
  ManyValues : ValueSort

-- The values of a script (numbers, texts, bools, unit, formats, predicates, sources, lists and tuples) and lists of
-- values, as one family of trees.
pub data ValueTree : ValueSort → Type 0 where
  no_values : ValueTree ManyValues
  more_values : ValueTree OneValue → ValueTree ManyValues → ValueTree ManyValues
  Int : ℤ → ValueTree OneValue
  Number : Decimal → ValueTree OneValue
  TextValue : List ℕ → ValueTree OneValue
  TruthValue : Bool → ValueTree OneValue
  UnitValue : ValueTree OneValue
  -- a format of samples of 24 bits, or of 16
  FormatValue : (wide : Bool) → ValueTree OneValue
  PredValue : Predicate → ValueTree OneValue
  -- a source is the number of its node
  Source : ℕ → ValueTree OneValue
  ListValue : ValueTree ManyValues → ValueTree OneValue
  TupleValue : ValueTree ManyValues → ValueTree OneValue

-- A value of a script: a number, text, bool, unit, format, predicate or source, or a list or tuple of values.
abbrev pub Value : Type 0
Value = ValueTree OneValue

-- Values as one tree, the form in which they stand within a list or tuple of a script.
abbrev pub many : List Value → ValueTree ManyValues
many [] = no_values
many (v ∷ vs) = more_values v (many vs)

-- The values of a list or tuple of a script, from the tree in which they stand one behind the other, as a plain list.
abbrev pub items : ValueTree ManyValues → List Value
items no_values = []
items (more_values v vs) = v ∷ items vs

-- The size of a value, which naming it costs as work: 1, and for a list or tuple the sizes of its parts besides.
abbrev pub size : {s : ValueSort} → ValueTree s → ℕ
size no_values = 0
size (more_values v vs) = size v + size vs
size (Int n) = 1
size (Number d) = 1
size (TextValue t) = 1
size (TruthValue b) = 1
size UnitValue = 1
size (FormatValue wide) = 1
size (PredValue p) = 1
size (Source n) = 1
size (ListValue vs) = size vs + 1
size (TupleValue vs) = size vs + 1
