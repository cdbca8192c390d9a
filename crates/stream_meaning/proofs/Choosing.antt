-- A selection, a rotate and a random offer where they have to.
use Rattle.std.proofs.Common.{◌≡◌, ◌<◌, ◌+◌, ◌-◌, ◌∙◌, ℕ, zero, suc, Some, None, Option, List, [], ◌∷◌, length, drop, Bool, true, false, cond, arith, refl, ap, sym, subst, nat_eq, inl, inr}
use Rattle.std.specs.Prelude.{IsSome, is_some, slice_index_or, ◌&&◌, not}
use Rattle.std.proofs.lemmas.Bool.{false≢true, eqb-true, eq-eqb, cases_lt}
use Rattle.frame_core.specs.declared.cell.Cell.{Cell}
use Rattle.frame_core.specs.Slots.{Slot, slot_at, is_first}
use Rattle.op_select.specs.declared.rule.Picked.{Picked}
use Rattle.op_select.specs.Selection.{first_ready, first_offering, goes_on, first_pick, turn_pick, picked_cell, picked}
use Rattle.op_turn.specs.declared.turn.Turn.{Turn}
use Rattle.op_turn.specs.Turns.{Past, offered}
use Rattle.op_turn.proofs.Offering.{some_offers}
use Rattle.op_turn.proofs.Standing.{some_offered}
use Rattle.stream_meaning.specs.Instants.{picked_part}

-- the child at a place offers; places are counted from this one
abbrev pub IsPicked : List Slot → ℕ → Option ℕ → Type 0
IsPicked slots place None = ⊥
IsPicked slots place (Some child) = (i : ℕ) × (child ≡ place + i) × IsSome (slot_at slots i)

picked-cell : (slots : List Slot) (last : Option ℕ) (child : ℕ) (cell : Cell) → slot_at slots child ≡ Some cell
    → picked slots last (Some child) ≡ Some (record { child = child; cell = picked_cell last child cell })
picked-cell slots last child cell at = rw at refl

picked-none : (slots : List Slot) (last : Option ℕ) (child : ℕ) → slot_at slots child ≡ None → picked slots last (Some child) ≡ None
picked-none slots last child at = rw at refl

picked_by : (slots : List Slot) (last : Option ℕ) (child : ℕ) (slot : Slot) → slot_at slots child ≡ slot → IsSome slot → IsSome (picked_part (picked slots last (Some child))).slot
picked_by slots last child None at is = absurd (false≢true is)
picked_by slots last child (Some cell) at is = subst (λ found. IsSome (picked_part found).slot) (sym (picked-cell slots last child cell at)) refl

pub picked_some : (slots : List Slot) (last pick : Option ℕ) → IsPicked slots 0 pick → IsSome (picked_part (picked slots last pick)).slot
picked_some slots last None is = absurd is
picked_some slots last (Some child) (i, at, is) =
    picked_by slots last child (slot_at slots child) refl (subst (λ n. IsSome (slot_at slots n)) (let e = at in omega (arith, e)) is)

slot_within : (slots : List Slot) (i : ℕ) → IsSome (slot_at slots i) → i < length slots
slot_within [] i is = absurd (false≢true is)
slot_within (slot ∷ slots) zero is = omega arith
slot_within (slot ∷ slots) (suc i) is = let low = slot_within slots i is in omega (arith, low)

within_by : (slots : List Slot) (last : Option ℕ) (at child : ℕ) (slot : Slot) → slot_at slots at ≡ slot → (picked_part (picked slots last (Some at))).pick ≡ Some child → child < length slots
within_by slots last at child None is e =
    let none : (picked_part (picked slots last (Some at))).pick ≡ None = ap (λ found. (picked_part found).pick) (picked-none slots last at is) in cc
within_by slots last at child (Some cell) is e =
    let some : (picked_part (picked slots last (Some at))).pick ≡ Some at = ap (λ found. (picked_part found).pick) (picked-cell slots last at cell is) in
    let same : at ≡ child = cc in
    subst (λ n. n < length slots) same (slot_within slots at (ap is_some is))

-- the pick is one of the children
pub picked_within : (slots : List Slot) (last pick : Option ℕ) (child : ℕ) → (picked_part (picked slots last pick)).pick ≡ Some child → child < length slots
picked_within slots last None child e = cc
picked_within slots last (Some at) child e = within_by slots last at child (slot_at slots at) refl e

later : (slot : Slot) (slots : List Slot) (place : ℕ) (pick : Option ℕ) → IsPicked slots (suc place) pick → IsPicked (slot ∷ slots) place pick
later slot slots place None is = is
later slot slots place (Some child) (i, at, is) = (suc i, omega (arith, at), is)

offering_by : (slot : Slot) (slots : List Slot) (place : ℕ) (now : Bool) → is_some slot ≡ now → (now ≡ false → IsPicked slots (suc place) (first_offering slots (suc place)))
    → IsPicked (slot ∷ slots) place (cond now (Some place) (first_offering slots (suc place)))
offering_by slot slots place true is more = (0, omega arith, is)
offering_by slot slots place false is more = later slot slots place (first_offering slots (suc place)) (more refl)

pub offering : (slots : List Slot) (place j : ℕ) → IsSome (slot_at slots j) → IsPicked slots place (first_offering slots place)
offering [] place j is = absurd (false≢true is)
offering (slot ∷ slots) place zero is = offering_by slot slots place (is_some slot) refl (λ no. absurd (false≢true (sym no ∙ is)))
offering (slot ∷ slots) place (suc j) is = offering_by slot slots place (is_some slot) refl (λ no. offering slots (suc place) j is)

ready_by : (slot : Slot) (slots : List Slot) (eligible : List Bool) (place : ℕ) (mark now : Bool) → is_some slot ≡ now
    → ((mark && now) ≡ false → IsPicked slots (suc place) (first_ready slots eligible (suc place)))
    → IsPicked (slot ∷ slots) place (cond (mark && now) (Some place) (first_ready slots eligible (suc place)))
ready_by slot slots eligible place true true is more = (0, omega arith, is)
ready_by slot slots eligible place true false is more = later slot slots place (first_ready slots eligible (suc place)) (more refl)
ready_by slot slots eligible place false now is more = later slot slots place (first_ready slots eligible (suc place)) (more refl)

both : (mark now : Bool) → mark ≡ true → now ≡ true → (mark && now) ≡ false → ⊥
both true true m n e = false≢true (sym e)
both true false m n e = false≢true n
both false now m n e = false≢true m

pub ready : (slots : List Slot) (eligible : List Bool) (place j : ℕ) → IsSome (slot_at slots j) → slice_index_or eligible j false ≡ true
    → IsPicked slots place (first_ready slots eligible place)
ready [] eligible place j is mark = absurd (false≢true is)
ready (slot ∷ slots) [] place j is mark = absurd (false≢true mark)
ready (slot ∷ slots) (e ∷ eligible) place zero is mark =
    ready_by slot slots eligible place e (is_some slot) refl (λ no. absurd (both e (is_some slot) mark is no))
ready (slot ∷ slots) (e ∷ eligible) place (suc j) is mark =
    ready_by slot slots eligible place e (is_some slot) refl (λ no. ready slots eligible (suc place) j is mark)

first_of : (now rest : Bool) → (now && rest) ≡ true → now ≡ true
first_of true rest e = refl
first_of false rest e = e

goes_some : (slots : List Slot) (child : ℕ) → goes_on slots child ≡ true → IsSome (slot_at slots child)
goes_some slots child is = first_of (is_some (slot_at slots child)) (not (is_first (slot_at slots child))) is

going_by : (slots : List Slot) (last : ℕ) (pick : Option ℕ) (goes : Bool) → goes_on slots last ≡ goes → IsPicked slots 0 pick → IsPicked slots 0 (cond goes (Some last) pick)
going_by slots last pick true goes is = (last, omega arith, goes_some slots last goes)
going_by slots last pick false goes is = is

pub first_picked : (sensitive : Bool) (slots : List Slot) (eligible : List Bool) (last : Option ℕ) (j : ℕ) → IsSome (slot_at slots j) → slice_index_or eligible j false ≡ true
    → IsPicked slots 0 (first_pick sensitive slots eligible last)
first_picked true slots eligible (Some last) j is mark =
    going_by slots last (first_ready slots eligible 0) (goes_on slots last) refl (ready slots eligible 0 j is mark)
first_picked true slots eligible None j is mark = ready slots eligible 0 j is mark
first_picked false slots eligible last j is mark = ready slots eligible 0 j is mark

-- dropping children
dropped_at : (slots : List Slot) (n i : ℕ) → slot_at (drop n slots) i ≡ slot_at slots (n + i)
dropped_at [] zero i = refl
dropped_at [] (suc n) i = refl
dropped_at (slot ∷ slots) zero i = let e : i ≡ 0 + i = omega arith in ap (slot_at (slot ∷ slots)) e
dropped_at (slot ∷ slots) (suc n) i = let e : suc (n + i) ≡ suc n + i = omega arith in dropped_at slots n i ∙ ap (slot_at (slot ∷ slots)) e

behind : (slots : List Slot) (n : ℕ) (pick : Option ℕ) → IsPicked (drop n slots) n pick → IsPicked slots 0 pick
behind slots n None is = is
behind slots n (Some child) (i, at, is) = (n + i, at ∙ omega arith, subst IsSome (dropped_at slots n i) is)

further : (child last long : ℕ) → child < long → suc last ≡ long → (child ≡ last → ⊥) → suc child + (last - suc child) ≡ last
further child last long less at apart = elim (cases_lt child last) [
  | inl low ↦ omega (arith, low)
  | inr high ↦ (let e : child ≡ last = omega (arith, less, at, high) in absurd (apart e))
]

turn_by : (slots : List Slot) (child : ℕ) (ends now goes : Bool) → nat_eq (suc child) (length slots) ≡ ends → is_some (slot_at slots child) ≡ now → goes_on slots child ≡ goes
    → child < length slots → (last : ℕ) → suc last ≡ length slots → IsSome (slot_at slots last)
    → IsPicked slots 0 (cond ends (cond now (Some child) None) (cond goes (Some child) (first_offering (drop (suc child) slots) (suc child))))
turn_by slots child true true goes ends now is less last at some = (child, omega arith, now)
turn_by slots child true false goes ends now is less last at some =
    let e = eqb-true (suc child) (length slots) ends in
    absurd (false≢true (sym now ∙ ap (λ n. is_some (slot_at slots n)) (omega (arith, e, at)) ∙ some))
turn_by slots child false now true ends n is less last at some = (child, omega arith, goes_some slots child is)
turn_by slots child false now false ends n is less last at some =
    behind slots (suc child) (first_offering (drop (suc child) slots) (suc child))
    (offering (drop (suc child) slots) (suc child) (last - suc child)
    (subst IsSome (sym (dropped_at slots (suc child) (last - suc child) ∙ ap (slot_at slots) (further child last (length slots) less at (λ e. false≢true (sym ends ∙ eq-eqb (suc child) (length slots) (omega (arith, e, at))))))) some))

pub turn_picked : (slots : List Slot) (last : Option ℕ) (end : ℕ) → ((child : ℕ) → last ≡ Some child → child < length slots) → suc end ≡ length slots → IsSome (slot_at slots end)
    → IsPicked slots 0 (turn_pick slots last)
turn_picked slots None end within at some = offering slots 0 end some
turn_picked slots (Some child) end within at some =
    turn_by slots child (nat_eq (suc child) (length slots)) (is_some (slot_at slots child)) (goes_on slots child) refl refl refl (within child refl) end at some

part_some : (found : Option Picked) → IsSome found → IsSome (picked_part found).slot
part_some None is = is
part_some (Some picked) is = refl

-- a rotate or a random offers where some child does
pub turn_some : (turn : Turn) (past : Past) (slots : List Slot) (j : ℕ) → IsSome (slot_at slots j) → IsSome (picked_part (offered turn past slots)).slot
turn_some turn past slots j is = part_some (offered turn past slots) (some_offered turn past slots ∙ some_offers slots j is)
