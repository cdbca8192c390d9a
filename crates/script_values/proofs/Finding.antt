-- A search for the value of a binding, one step at a time.
use Rattle.std.proofs.Common.{◌≡◌, ◌≢◌, ℕ, ◌+◌, ◌<◌, ◌≤◌, List, length, drop, get_or, Some, None, Option, Bool, true, false, cond, sym, ap, ◌∙◌, nat_eq, eq-eqb, ne_eqb}
use Rattle.std.proofs.lemmas.List.{at_drop_more, at_drop_all}
use Rattle.std.specs.Prelude.{map}
use Rattle.script_values.specs.declared.slots.Slot.{Slot}
use Rattle.script_values.specs.Values.{Value}
use Rattle.script_values.specs.View.{view_value}
use Rattle.script_values.specs.Views.{view_slot}
use Rattle.script_values.specs.Slots.{value_at_token}

step : (at i : ℕ) (slots : List Slot) (s : Slot) (b : Bool) → i < length slots → s ≡ get_or slots i s → nat_eq s.at at ≡ b → value_at_token at (map view_slot (drop i slots)) ≡ cond b (Some (view_value s.value)) (value_at_token at (map view_slot (drop (i + 1) slots)))
step at i slots s b lt is same =
    at_drop_more (λ (l : List Slot). value_at_token at (map view_slot l)) slots i s lt
    ∙ ap (λ (v : Slot). cond (nat_eq v.at at) (Some (view_value v.value)) (value_at_token at (map view_slot (drop (i + 1) slots)))) (sym is)
    ∙ ap (λ (t : Bool). cond t (Some (view_value s.value)) (value_at_token at (map view_slot (drop (i + 1) slots)))) same

pub slot_there : (at i : ℕ) (slots : List Slot) (s : Slot) (found : Option Value) → value_at_token at (map view_slot (drop i slots)) ≡ found → i < length slots → s ≡ get_or slots i s → s.at ≡ at → Some (view_value s.value) ≡ found
slot_there at i slots s found so lt is same = sym (step at i slots s true lt is (eq-eqb s.at at same)) ∙ so

pub slot_next : (at i : ℕ) (slots : List Slot) (s : Slot) (found : Option Value) → value_at_token at (map view_slot (drop i slots)) ≡ found → i < length slots → s ≡ get_or slots i s → s.at ≢ at → value_at_token at (map view_slot (drop (i + 1) slots)) ≡ found
slot_next at i slots s found so lt is other = sym (step at i slots s false lt is (ne_eqb s.at at other)) ∙ so

pub slot_none : (at i : ℕ) (slots : List Slot) (found : Option Value) → value_at_token at (map view_slot (drop i slots)) ≡ found → length slots ≤ i → None ≡ found
slot_none at i slots found so over = sym (at_drop_all (λ (l : List Slot). value_at_token at (map view_slot l)) slots i over) ∙ so
