use Rattle.std.proofs.Common.{◌≡◌, subst, IfOk}
use Rattle.type_terms.specs.Term.{term_of}
use Rattle.type_terms.proofs.Renaming.{kept}
use Rattle.type_terms.proofs.naming.copy.Goals as goal

pub returns : goal.returns
returns c = subst (λ t. IfOk c.renamed_within.result (λ u. term_of u ≡ t)) (kept (term_of c.args.ty.now)) c.renamed_within.ensures
