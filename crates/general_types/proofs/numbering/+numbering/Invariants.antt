use Rattle.std.proofs.Common.{◌+◌, map, take}
use Rattle.type_terms.specs.Term.{term_of}
use Rattle.general_types.specs.Numbering.{AreNumbered}
use Rattle.general_types.proofs.numbering.+numbering.Given as goal

abbrev pub decreases-numbered : goal.decreases-numbered
decreases-numbered l = l.levels + l.levels

abbrev pub decreases-all_numbered : goal.decreases-all_numbered
decreases-all_numbered l = l.levels + l.levels + 1

abbrev pub invariant-all_numbered-loop-ty : goal.invariant-all_numbered-loop-ty
invariant-all_numbered-loop-ty l = AreNumbered l.fn.types.keys l.fn.kinds.keys l.types.keys l.kinds.keys (map term_of (take l.ty-index l.tys)) (map term_of l.places.items)
