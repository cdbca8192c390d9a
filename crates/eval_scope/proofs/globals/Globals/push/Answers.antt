use Rattle.std.proofs.Common.{ℕ, List, nat_eq, sym, subst, ◌∙◌}
use Rattle.script_values.specs.declared.slots.Slot.{Slot}
use Rattle.eval_scope.specs.Places.{IsTable, Notes, is_slot}
use Rattle.eval_scope.proofs.Tables.{table_push}
use Rattle.eval_scope.proofs.globals.Globals.push.Goals as goal

pub invariant_of-self-in-Ok : goal.invariant_of-self-in-Ok
invariant_of-self-in-Ok c =
    let noted = subst (λ (n : ℕ). Notes (nat_eq c.args.slot.at) c.args.self.now.places n c.note.new.places) (c.len-place.ensures ∙ c.args.self.now.all.ok.0) c.in-Ok.ensures.noted in
    record { table = subst (λ (l : List Slot). IsTable is_slot c.note.new.places l) (sym c.in_ok-push.ensures.items) (table_push is_slot c.args.self.now.places c.note.new.places c.args.self.now.all.items c.args.slot c.args.self.now.table noted) }
