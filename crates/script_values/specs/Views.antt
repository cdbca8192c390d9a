-- The plain data of what the evaluator holds.
use Rattle.script_values.specs.declared.slots.Slot as slot
use Rattle.script_values.specs.declared.slots.Given as given
use Rattle.script_values.specs.View.{view_value}
use Rattle.script_values.specs.Slots.{SlotValue, Argument}

-- A variable with its value, from the program's data to plain data of the specification: the token at which its name
-- was bound, and the value.
abbrev pub view_slot : slot.Slot → SlotValue
view_slot s = (s.at, view_value s.value)

-- An argument of a call, from the program's data to plain data of the specification: its label, if it has one, and its
-- value.
abbrev pub view_given : given.Given → Argument
view_given g = (g.label, view_value g.value)
