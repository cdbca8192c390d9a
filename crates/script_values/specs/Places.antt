-- The place of the argument that a search takes.
use Rattle.std.specs.Prelude.{◌≡◌, ℕ, ◌<◌, List, Option, Some, length, map, remove, slice_index_or}
use Rattle.script_values.specs.declared.slots.Given as program
use Rattle.script_values.specs.View.{view_value}
use Rattle.script_values.specs.Views.{view_given}
use Rattle.typing_rules.specs.Arguments.{argument}

-- Argument number i of a call, from 0, is the one that a search finds: the first with this label, or the first without
-- one where it is `None`. `given` are all arguments. It is taken out, and the others stay in order.
pub record IsPlace (label : Option (List ℕ)) (given : List program.Given) (i : ℕ) : Type 0 where
  pub within : i < length given
  pub taken : (g : program.Given) (left : List program.Given) → g ≡ slice_index_or given i g → left ≡ remove given i
      → Some (view_value g.value, map view_given left) ≡ argument label (map view_given given)
