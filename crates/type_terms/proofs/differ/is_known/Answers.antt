use Rattle.type_terms.proofs.Agendas.{known_pair}
use Rattle.type_terms.proofs.Views.{term_Var}
use Rattle.type_terms.proofs.differ.is_known.Goals as goal

pub returns-in-Var-right : goal.returns-in-Var-right
returns-in-Var-right c = known_pair c.contains.result c.args.seen.now.keys c.in-Var.x c.in-Var-right.y _ _ (term_Var _ _ c.in-Var.is) (term_Var _ _ c.in-Var-right.is) c.contains.ensures
