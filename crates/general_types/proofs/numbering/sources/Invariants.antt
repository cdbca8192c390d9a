use Rattle.std.proofs.Common.{◌≡◌, map, take}
use Rattle.type_terms.specs.Term.{source_term, term_of}
use Rattle.general_types.proofs.numbering.sources.Given as goal

abbrev pub invariant-loop-kind : goal.invariant-loop-kind
invariant-loop-kind l = map term_of l.types.items ≡ map source_term (take l.kind-index l.kinds)
