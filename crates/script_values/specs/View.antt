-- The value that a program's value stands for.
use Rattle.time_pred.specs.View.{view_shared}
use Rattle.script_values.specs.declared.value.Value as value
use Rattle.script_values.specs.Values.{ValueTree, OneValue, ManyValues, no_values, more_values, Int, Number, TextValue, TruthValue, UnitValue, FormatValue, PredValue, Source, ListValue, TupleValue}

-- The values of the running program as values of the specification: one value (`view_value`), and the values that stand
-- in a list or tuple (`view_values`).
abbrev mutual
  -- the value of the specification for which a value of the running program stands
  pub view_value : value.Value → ValueTree OneValue
  view_value (value.Int n) = Int n
  view_value (value.Decimal d) = Number d
  view_value (value.Text t) = TextValue t.value
  view_value (value.Truth b) = TruthValue b
  view_value value.Nothing = UnitValue
  view_value (value.Format wide) = FormatValue wide
  view_value (value.Pred p) = PredValue (view_shared p)
  view_value (value.Source n) = Source n
  view_value (value.Listed' shape parts) = ListValue (view_values parts)
  view_value (value.Tuple' shape parts) = TupleValue (view_values parts)

  -- the values of the specification for which the values in a list or tuple of the running program stand
  pub view_values : {m : _} → value.Row_of-Value m → ValueTree ManyValues
  view_values value.end_of-Value = no_values
  view_values (value.more_of-Value v rest) = more_values (view_value v) (view_values rest)
