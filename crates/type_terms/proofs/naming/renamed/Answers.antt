use Rattle.type_terms.specs.Term.{term_of}
use Rattle.type_terms.proofs.Renaming.{means_behind}
use Rattle.type_terms.proofs.naming.renamed.Goals as goal

pub returns-clause-same : goal.returns-clause-same
returns-clause-same c = means_behind c.args.types.now c.args.kinds.now (term_of c.args.ty.now) c.renamed_within.result c.renamed_within.ensures
