use Rattle.std.proofs.Common.{◌≡◌, ◌++◌, map, take}
use Rattle.general_types.specs.Numbering.{kind_parameter}
use Rattle.general_types.proofs.generalising.push_parameters.Given as goal

abbrev pub invariant-loop-number : goal.invariant-loop-number
invariant-loop-number l = l.parameters.items ≡ l.fn.parameters.items ++ map (kind_parameter l.held l.free) (take l.number-index l.numbers)
