use Rattle.std.proofs.Common.{◌≡◌, map, take}
use Rattle.general_types.specs.Numbering.{type_parameter}
use Rattle.general_types.proofs.generalising.push_types.Given as goal

abbrev pub invariant-loop-number : goal.invariant-loop-number
invariant-loop-number l = l.parameters.items ≡ map (type_parameter l.subst l.held) (take l.number-index l.numbers)
