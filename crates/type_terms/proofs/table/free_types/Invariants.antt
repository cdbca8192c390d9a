use Rattle.std.proofs.Common.{List, drop}
use Rattle.type_terms.specs.Variables.{Variable}
use Rattle.type_terms.specs.Undo.{IsTrail}
use Rattle.type_terms.proofs.table.free_types.Given as goal

abbrev pub invariant-loop-x : goal.invariant-loop-x
invariant-loop-x l = (vs : List Variable) → IsTrail l.trail vs l.initial.types → IsTrail (drop l.x-index l.trail) vs l.types
