use Rattle.std.proofs.Common.{◌≡◌, map, take}
use Rattle.type_terms.specs.Naming.{instance}
use Rattle.type_terms.specs.Term.{term_of}
use Rattle.type_terms.proofs.naming.+renamed_within.Given as goal

abbrev pub decreases-renamed_within : goal.decreases-renamed_within
decreases-renamed_within l = l.levels

abbrev pub invariant-loop-part : goal.invariant-loop-part
invariant-loop-part l = map term_of l.copies.items ≡ map (instance l.types l.kinds) (map term_of (take l.part-index l.part-items))
