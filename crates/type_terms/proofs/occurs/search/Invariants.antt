use Rattle.type_terms.specs.Nested.{terms}
use Rattle.type_terms.specs.Term.{term_of}
use Rattle.type_terms.proofs.Walks.{IsSearch}
use Rattle.type_terms.proofs.occurs.search.Given as goal

abbrev pub invariant-loop-step : goal.invariant-loop-step
invariant-loop-step l = IsSearch l.types l.nested l.x (term_of l.ty) (terms l.work.items) l.seen.keys
