use Rattle.std.proofs.Common.{map, take}
use Rattle.type_terms.specs.Term.{term_of}
use Rattle.general_types.specs.Numbering.{AreSettled}
use Rattle.general_types.proofs.numbering.all_resolved.Given as goal

abbrev pub invariant-loop-ty : goal.invariant-loop-ty
invariant-loop-ty l = AreSettled l.subst (map term_of (take l.ty-index l.tys)) (map term_of l.settled.items)
