use Rattle.std.proofs.Common.{length}
use Rattle.type_terms.specs.Nested.{terms}
use Rattle.type_terms.specs.Term.{term_of}
use Rattle.type_terms.proofs.Walks.{IsCensus}
use Rattle.type_terms.proofs.occurs.all_among.Given as goal

abbrev pub invariant-loop-step : goal.invariant-loop-step
invariant-loop-step l = IsCensus (length l.types) (length l.kinds) (term_of l.ty) (terms l.work.items)
