use Rattle.std.proofs.Common.{◌≡◌, drop}
use Rattle.std.specs.Prelude.{map}
use Rattle.script_values.specs.Slots.{value_at_token}
use Rattle.script_values.specs.Views.{view_slot}
use Rattle.script_values.proofs.slots.slot_at.Given as goal

abbrev pub invariant-loop-slot : goal.invariant-loop-slot
invariant-loop-slot l = value_at_token l.at (map view_slot (drop l.slot-index l.slots)) ≡ value_at_token l.at (map view_slot l.slots)
