use Rattle.std.proofs.Common.{◌≡◌, map, take}
use Rattle.type_terms.specs.Naming.{instance}
use Rattle.type_terms.specs.Term.{term_of}
use Rattle.type_instances.proofs.instances.push_renamed.Given as goal

abbrev pub invariant-loop-ty : goal.invariant-loop-ty
invariant-loop-ty l = map term_of l.copies.items ≡ map (instance l.types l.kinds) (map term_of (take l.ty-index l.tys))
