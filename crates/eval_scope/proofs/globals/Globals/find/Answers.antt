use Rattle.std.proofs.Common.{◌≡◌, List, Option, None, Some, Bor, slice_get, sym, ap, ◌∙◌, rules}
use Rattle.std.specs.Prelude.{option_map}
use Rattle.script_values.specs.View.{view_value}
use Rattle.script_values.specs.declared.slots.Slot.{Slot}
use Rattle.script_values.specs.declared.value.Value.{Value}
use Rattle.eval_scope.specs.Places.{is_slot}
use Rattle.eval_scope.proofs.Tables.{slot_found, item_found, table_finds}
use Rattle.eval_scope.proofs.globals.Globals.find.Goals as goal

pub returns-in_err-place : goal.returns-in_err-place
returns-in_err-place c =
    let none : c.from_residual.result ≡ None = search rules in
    ap (λ (o : Option (Bor Value)). option_map (λ v. view_value v.now) o) none
    ∙ ap (λ (o : Option Slot). option_map (λ s. view_value s.value) o) (table_finds is_slot c.args.self.now.places c.args.self.now.all.items c.args.at None c.args.self.now.table c.in_err-place.ensures)
    ∙ sym (slot_found c.args.at c.args.self.now.all.items)

pub returns : goal.returns
returns c =
    let place = c.in_ok-place.place in
    let there : Some c.in_ok-slot.slot.now ≡ slice_get c.args.self.now.all.items place = item_found (Some c.in_ok-slot.slot) c.deref.result.now place c.in_ok-slot.ensures.lookup.1 c.in_ok-slot.ensures.lookup.3 ∙ ap (λ (l : List Slot). slice_get l place) c.deref.ensures.value in
    ap (λ (o : Option Slot). option_map (λ s. view_value s.value) o) (there ∙ table_finds is_slot c.args.self.now.places c.args.self.now.all.items c.args.at (Some place) c.args.self.now.table c.in_ok-place.ensures)
    ∙ sym (slot_found c.args.at c.args.self.now.all.items)
