use Rattle.type_terms.specs.Term.{height, term_of}
use Rattle.type_terms.proofs.naming.+places.Given as goal

abbrev pub decreases-places : goal.decreases-places
decreases-places l = height (λ _. 0) (term_of l.ty.now)
