use Rattle.type_terms.specs.Term.{term_of}
use Rattle.type_terms.proofs.Avoiding.{avoids_closed}
use Rattle.type_terms.proofs.Basics.{on_true}
use Rattle.type_terms.proofs.occurs.occurs_in.Goals as goal

pub returns-then-is_leaf-clause-no : goal.returns-then-is_leaf-clause-no
returns-then-is_leaf-clause-no c = avoids_closed c.args.types.now c.args.x (term_of c.args.ty.now) (on_true _ c.if-is_leaf.ensures)
