use Rattle.general_types.proofs.Leads.{adds_none, adds_variable}
use Rattle.general_types.proofs.walking.add_kind.Goals as goal

pub returns-in_ok-insert-in-Var : goal.returns-in_ok-insert-in-Var
returns-in_ok-insert-in-Var c =
    adds_variable c.args.subst.now c.args.kind c.in-Var.number c.args.kinds.now.keys c.insert.new.self.keys
    (rw c.in-Var.is at c.resolved_kind.ensures.unbound) (rw c.in-Var.is at c.resolved_kind.ensures.same) c.in_ok-insert-in-Var.ensures.updates.0

pub returns-in-Fixed : goal.returns-in-Fixed
returns-in-Fixed c = adds_none c.args.subst.now c.args.kind _ c.args.kinds.now.keys (rw c.in-Fixed.is at c.resolved_kind.ensures.same)
