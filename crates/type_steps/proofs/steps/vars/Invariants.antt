use Rattle.std.proofs.Common.{◌≡◌, map, take}
use Rattle.type_terms.specs.Term.{term_of, variable}
use Rattle.type_steps.proofs.steps.vars.Given as goal

abbrev pub invariant-loop-part : goal.invariant-loop-part
invariant-loop-part l = map term_of l.types.items ≡ map variable (take l.part-index l.parts)
