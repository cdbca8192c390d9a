use Rattle.std.proofs.Common.{◌≡◌, take, min}
use Rattle.std.specs.Prelude.{map}
use Rattle.script_values.specs.Values.{many, size}
use Rattle.script_values.specs.View.{view_value}
use Rattle.script_values.proofs.value.+size.Given as goal

abbrev pub invariant-sizes-loop-part : goal.invariant-sizes-loop-part
invariant-sizes-loop-part l = l.sum ≡ min (size (many (map view_value (take l.part-index l.parts)))) 18446744073709551615
