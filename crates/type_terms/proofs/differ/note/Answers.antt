use Rattle.std.proofs.Common.{eqb, ◌&&◌}
use Rattle.std.specs.List.{list_any}
use Rattle.type_terms.proofs.Agendas.{inserted_below, inserted_kept}
use Rattle.type_terms.proofs.Views.{term_Var}
use Rattle.type_terms.proofs.differ.note.Goals as goal

pub returns-in_ok-insert-in-Var-right-clause-known : goal.returns-in_ok-insert-in-Var-right-clause-known
returns-in_ok-insert-in-Var-right-clause-known c a n h =
    inserted_kept a n (list_any (λ l. eqb c.in-Var.x l.0 && eqb c.in-Var-right.y l.1) c.args.seen.now.keys) c.args.seen.now.keys c.insert.new.self.keys (c.in-Var.x, c.in-Var-right.y) c.in_ok-insert-in-Var-right.ensures.keys h

pub returns-in_ok-insert-in-Var-right-clause-learnt : goal.returns-in_ok-insert-in-Var-right-clause-learnt
returns-in_ok-insert-in-Var-right-clause-learnt c a n e h =
    inserted_below a n (list_any (λ l. eqb c.in-Var.x l.0 && eqb c.in-Var-right.y l.1) c.args.seen.now.keys) c.args.seen.now.keys c.insert.new.self.keys c.in-Var.x c.in-Var-right.y _ _ (term_Var _ _ c.in-Var.is) (term_Var _ _ c.in-Var-right.is) c.in_ok-insert-in-Var-right.ensures.keys e h
