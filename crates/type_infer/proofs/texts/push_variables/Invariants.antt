use Rattle.std.proofs.Common.{◌≡◌, map, take}
use Rattle.type_terms.specs.Term.{term_of, variable}
use Rattle.type_infer.proofs.texts.push_variables.Given as goal

abbrev pub invariant-loop-number : goal.invariant-loop-number
invariant-loop-number l = map term_of l.types.items ≡ map variable (take l.number-index l.numbers)
