use Rattle.std.proofs.Common.{◌≡◌, take}
use Rattle.std.specs.Prelude.{map}
use Rattle.script_values.specs.View.{view_value}
use Rattle.script_values.proofs.value.+copy.Given as goal

abbrev pub invariant-copies-loop-part : goal.invariant-copies-loop-part
invariant-copies-loop-part l = map view_value l.copies.items ≡ map view_value (take l.part-index l.parts)
