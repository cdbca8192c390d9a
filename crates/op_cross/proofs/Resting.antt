-- The items of a stretch.
use Rattle.std.proofs.Common.{◌≡◌, ◌<◌, ◌+◌, ◌∙◌, ℕ, zero, suc, Some, None, List, [], ◌∷◌, drop, Bool, true, false, cond, arith, refl, ap, sym}
use Rattle.std.specs.Prelude.{not}
use Rattle.std.proofs.lemmas.List.{get_or-drop}
use Rattle.frame_core.specs.declared.cell.Cell.{Cell}
use Rattle.frame_core.specs.Slots.{Slot, slot_at, is_inner}
use Rattle.op_cross.specs.Stretches.{inner_count, stretch}

run_by : (cell : Cell) (slots : List Slot) → ((j : ℕ) → j < inner_count slots → is_inner (slot_at slots j) ≡ true) → (first : Bool) → cell.first ≡ first → (j : ℕ)
    → j < cond first 0 (suc (inner_count slots)) → is_inner (slot_at (Some cell ∷ slots) j) ≡ true
run_by cell slots more true e j low = absurd (omega (arith, low))
run_by cell slots more false e zero low = ap not e
run_by cell slots more false e (suc j) low = more j (omega (arith, low))

run_inner : (slots : List Slot) (j : ℕ) → j < inner_count slots → is_inner (slot_at slots j) ≡ true
run_inner [] j low = absurd (omega (arith, low))
run_inner (None ∷ slots) j low = absurd (omega (arith, low))
run_inner (Some cell ∷ slots) j low = run_by cell slots (λ j low. run_inner slots j low) cell.first refl j low

stretch_inner : (slots : List Slot) (j : ℕ) → is_inner (slot_at slots 0) ≡ true → j < stretch slots → is_inner (slot_at slots j) ≡ true
stretch_inner [] j here low = absurd (omega (arith, low))
stretch_inner (None ∷ slots) j here low = absurd (omega (arith, low))
stretch_inner (Some cell ∷ slots) zero here low = here
stretch_inner (Some cell ∷ slots) (suc j) here low = run_inner slots j (omega (arith, low))

pub items_inner : (items : List Slot) (p j : ℕ) → is_inner (slot_at items p) ≡ true → j < stretch (drop p items) → is_inner (slot_at items (p + j)) ≡ true
items_inner items p j here low =
    let e : p + 0 ≡ p = omega arith in
    ap is_inner (sym (get_or-drop p items j None))
    ∙ stretch_inner (drop p items) j (ap is_inner (get_or-drop p items 0 None) ∙ ap (λ n. is_inner (slot_at items n)) e ∙ here) low
