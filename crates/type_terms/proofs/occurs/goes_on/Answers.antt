use Rattle.type_terms.proofs.Walks.{no_variable_visit}
use Rattle.type_terms.proofs.occurs.goes_on.Goals as goal

pub returns-in_default : goal.returns-in_default
returns-in_default c = no_variable_visit c.args.nested c.args.seen.now.keys c.args.ty.now _ c.in_default.not-Var
