-- A child that is used offers, and where some child offers one is used.
use Rattle.std.proofs.Common.{◌≡◌, ◌<◌, ◌+◌, ◌++◌, ◌%◌, ◌&&◌, ◌||◌, not, nat_eq, ◌∙◌, ◌⊎◌, ℕ, suc, zero, Bool, true, false, Option, Some, None, List, [], ◌∷◌, length, take, drop, slice_get, is_some, if◌then◌else◌, ap, arith, refl, subst, sym, inl, inr, ⊎_elim, eqb-true, eq-eqb}
use Rattle.std.specs.List.{list_any}
use Rattle.std.proofs.lemmas.List.{length-append}
use Rattle.std.proofs.lemmas.Nat.{mod_below}
use Rattle.std.proofs.lemmas.Option.{same_Some, slice_get-get_or}
use Rattle.frame_core.specs.declared.cell.Cell.{Cell}
use Rattle.frame_core.specs.Slots.{Slot, is_first, slot_at}
use Rattle.op_select.specs.declared.rule.Picked.{Picked}
use Rattle.op_select.specs.Selection.{goes_on, is_last, picked, picked_cell, plays_on}
use Rattle.seed_words.specs.Words.{Unread}
use Rattle.op_turn.specs.Choices.{chosen_by, used_by}
use Rattle.op_turn.specs.Turns.{offering_from, rotated}

-- the child offers a cell
abbrev pub Offers : List Slot → ℕ → Type 0
Offers slots child = is_some (slot_at slots child) ≡ true

pub some_offers : (slots : List Slot) (child : ℕ) → Offers slots child → list_any is_some slots ≡ true
some_offers [] child offers = absurd cc
some_offers (None ∷ slots) zero offers = absurd cc
some_offers (None ∷ slots) (suc child) offers = some_offers slots child offers
some_offers (Some cell ∷ slots) child offers = refl

-- the children that are found offer

found_offers : (slots : List Slot) (from number child : ℕ) → slice_get (offering_from slots from) number ≡ Some child
    → (at : ℕ) × (child ≡ from + at) × Offers slots at
found_offers [] from number child is = absurd cc
found_offers (None ∷ slots) from number child is =
    let (at, place, offers) = found_offers slots (suc from) number child is in (suc at, omega (arith, place), offers)
found_offers (Some cell ∷ slots) from zero child is =
    let same : from ≡ child = cc is in (0, omega (arith, same), refl)
found_offers (Some cell ∷ slots) from (suc number) child is =
    let (at, place, offers) = found_offers slots (suc from) number child is in (suc at, omega (arith, place), offers)

at_place : (slots : List Slot) (from child : ℕ) → from ≡ 0 → (at : ℕ) × (child ≡ from + at) × Offers slots at → Offers slots child
at_place slots from child begin (at, place, offers) =
    let same : at ≡ child = omega (arith, begin, place) in subst (Offers slots) same offers

of_front : (k : ℕ) (slots : List Slot) (at : ℕ) → Offers (take k slots) at → Offers slots at
of_front zero slots at offers = absurd cc
of_front (suc k) [] at offers = absurd cc
of_front (suc k) (slot ∷ slots) zero offers = offers
of_front (suc k) (slot ∷ slots) (suc at) offers = of_front k slots at offers

of_back : (k : ℕ) (slots : List Slot) (at child : ℕ) → child ≡ k + at → Offers (drop k slots) at → Offers slots child
of_back zero slots at child place offers = let same : at ≡ child = omega (arith, place) in subst (Offers slots) same offers
of_back (suc k) [] at child place offers = absurd cc
of_back (suc k) (slot ∷ slots) at zero place offers = absurd (omega (arith, place))
of_back (suc k) (slot ∷ slots) at (suc child) place offers = of_back k slots at child (omega (arith, place)) offers

first_in : (front back : List ℕ) (child : ℕ) → slice_get (front ++ back) 0 ≡ Some child → (slice_get front 0 ≡ Some child) ⊎ (slice_get back 0 ≡ Some child)
first_in [] back child is = inr is
first_in (other ∷ front) back child is = inl is

rotated_offers : (slots : List Slot) (last : Option ℕ) (child : ℕ) → rotated slots last ≡ Some child → Offers slots child
rotated_offers slots None child is = at_place slots 0 child refl (found_offers slots 0 0 child is)
rotated_offers slots (Some last) child is =
    ⊎_elim behind before (first_in (offering_from (drop (suc last) slots) (suc last)) (offering_from (take (suc last) slots) 0) child is)
  where
    behind : slice_get (offering_from (drop (suc last) slots) (suc last)) 0 ≡ Some child → Offers slots child
    behind here = let (at, place, offers) = found_offers (drop (suc last) slots) (suc last) 0 child here in of_back (suc last) slots at child place offers

    before : slice_get (offering_from (take (suc last) slots) 0) 0 ≡ Some child → Offers slots child
    before here = of_front (suc last) slots child (at_place (take (suc last) slots) 0 child refl (found_offers (take (suc last) slots) 0 0 child here))

chosen_offers : (words : Option Unread) (last : Option ℕ) (slots : List Slot) (child : ℕ) → chosen_by words last slots ≡ Some child → Offers slots child
chosen_offers None last slots child is = rotated_offers slots last child is
chosen_offers (Some words) last slots child is = at_place slots 0 child refl (found_offers slots 0 (words.next % length (offering_from slots 0)) child is)

front_holds : (a b : Bool) → (a && b) ≡ true → a ≡ true
front_holds true b both = refl
front_holds false b both = both

playing_offers : (slots : List Slot) (last : Option ℕ) (child : ℕ) → plays_on slots last ≡ true → last ≡ Some child → Offers slots child
playing_offers slots None child plays is = absurd cc
playing_offers slots (Some last) child plays is =
    let same : last ≡ child = cc is in subst (Offers slots) same (front_holds (is_some (slot_at slots last)) (not (is_first (slot_at slots last))) plays)

by_test_offers : (words : Option Unread) (last : Option ℕ) (slots : List Slot) (child : ℕ) (plays : Bool) → plays_on slots last ≡ plays
    → (if plays then last else chosen_by words last slots) ≡ Some child → Offers slots child
by_test_offers words last slots child true on is = playing_offers slots last child on is
by_test_offers words last slots child false on is = chosen_offers words last slots child is

used_offers : (words : Option Unread) (last : Option ℕ) (slots : List Slot) (child : ℕ) → used_by words last slots ≡ Some child → Offers slots child
used_offers words last slots child is = by_test_offers words last slots child (plays_on slots last) refl is

-- a child is found where some child offers

some_found : (slots : List Slot) (from : ℕ) → list_any is_some slots ≡ true → 0 < length (offering_from slots from)
some_found [] from any = absurd cc
some_found (None ∷ slots) from any = some_found slots (suc from) any
some_found (Some cell ∷ slots) from any = omega arith

in_parts : (k : ℕ) (slots : List Slot) (from below : ℕ) → list_any is_some slots ≡ true
    → 0 < length (offering_from (drop k slots) from) + length (offering_from (take k slots) below)
in_parts k [] from below any = absurd cc
in_parts zero (slot ∷ slots) from below any = let some = some_found (slot ∷ slots) from any in omega (arith, some)
in_parts (suc k) (None ∷ slots) from below any = in_parts k slots from (suc below) any
in_parts (suc k) (Some cell ∷ slots) from below any = omega arith

there : (children : List ℕ) (number : ℕ) → number < length children → is_some (slice_get children number) ≡ true
there children number low = ap is_some (slice_get-get_or children number 0 low)

rotated_found : (slots : List Slot) (last : Option ℕ) → list_any is_some slots ≡ true → is_some (rotated slots last) ≡ true
rotated_found slots None any = there (offering_from slots 0) 0 (some_found slots 0 any)
rotated_found slots (Some last) any =
    let long = length-append (offering_from (drop (suc last) slots) (suc last)) (offering_from (take (suc last) slots) 0) in
    let some = in_parts (suc last) slots (suc last) 0 any in
    there (offering_from (drop (suc last) slots) (suc last) ++ offering_from (take (suc last) slots) 0) 0 (omega (arith, long, some))

chosen_found : (words : Option Unread) (last : Option ℕ) (slots : List Slot) → list_any is_some slots ≡ true → is_some (chosen_by words last slots) ≡ true
chosen_found None last slots any = rotated_found slots last any
chosen_found (Some words) last slots any =
    there (offering_from slots 0) _ (mod_below words.next (length (offering_from slots 0)) (some_found slots 0 any))

playing_found : (slots : List Slot) (last : Option ℕ) → plays_on slots last ≡ true → is_some last ≡ true
playing_found slots None plays = plays
playing_found slots (Some last) plays = refl

by_test_found : (words : Option Unread) (last : Option ℕ) (slots : List Slot) (plays : Bool) → plays_on slots last ≡ plays
    → list_any is_some slots ≡ true → is_some (if plays then last else chosen_by words last slots) ≡ true
by_test_found words last slots true on any = playing_found slots last on
by_test_found words last slots false on any = chosen_found words last slots any

used_found : (words : Option Unread) (last : Option ℕ) (slots : List Slot) → list_any is_some slots ≡ true → is_some (used_by words last slots) ≡ true
used_found words last slots any = by_test_found words last slots (plays_on slots last) refl any

-- so a state uses one of its children, and none exactly where no child offers

same_truth : (a b : Bool) → (a ≡ true → b ≡ true) → (b ≡ true → a ≡ true) → a ≡ b
same_truth true true onward back = refl
same_truth false false onward back = refl
same_truth true false onward back = sym (onward refl)
same_truth false true onward back = back refl

with_some : (last : Option ℕ) (child : ℕ) (slots : List Slot) (slot : Slot) → slot_at slots child ≡ slot → is_some (picked slots last (Some child)) ≡ is_some slot
with_some last child slots None at = rw at refl
with_some last child slots (Some cell) at = rw at refl

picked_any : (last used : Option ℕ) (slots : List Slot) → ((child : ℕ) → used ≡ Some child → Offers slots child)
    → (list_any is_some slots ≡ true → is_some used ≡ true) → is_some (picked slots last used) ≡ list_any is_some slots
picked_any last None slots offers found = same_truth false (list_any is_some slots) (λ no. absurd cc) found
picked_any last (Some child) slots offers found =
    with_some last child slots (slot_at slots child) refl ∙ offers child refl ∙ sym (some_offers slots child (offers child refl))

pub picked_some : (words : Option Unread) (last : Option ℕ) (slots : List Slot) → is_some (picked slots last (used_by words last slots)) ≡ list_any is_some slots
picked_some words last slots = picked_any last (used_by words last slots) slots (used_offers words last slots) (used_found words last slots)

-- what is offered tells the child that is used, and whether a choice found it

or_true : (b : Bool) → (b || true) ≡ true
or_true true = refl
or_true false = refl

twice : (b : Bool) → (b || false) ≡ not (true && not b)
twice true = refl
twice false = refl

no_longer : (b : Bool) → (b ≡ true → true ≡ false) → true ≡ not b
no_longer true never = never refl
no_longer false never = refl

flagged_by : (slots : List Slot) (last child : ℕ) (cell : Cell) (same : Bool) → nat_eq last child ≡ same → slot_at slots child ≡ Some cell
    → (goes_on slots last ≡ true → Some last ≡ Some child) → (cell.first || not same) ≡ not (goes_on slots last)
flagged_by slots last child cell true is at plays =
    twice cell.first ∙ sym (ap (λ slot. not (is_some slot && not (is_first slot))) (ap (slot_at slots) (eqb-true last child is) ∙ at))
flagged_by slots last child cell false is at plays =
    or_true cell.first ∙ no_longer (goes_on slots last) (λ on. sym (eq-eqb last child (same_Some _ _ (plays on))) ∙ is)

flagged : (slots : List Slot) (last : Option ℕ) (child : ℕ) (cell : Cell) → slot_at slots child ≡ Some cell
    → (plays_on slots last ≡ true → last ≡ Some child) → (cell.first || not (is_last last child)) ≡ not (plays_on slots last)
flagged slots None child cell at plays = or_true cell.first
flagged slots (Some last) child cell at plays = flagged_by slots last child cell (nat_eq last child) refl at plays

played : (words : Option Unread) (last : Option ℕ) (slots : List Slot) (child : ℕ) → used_by words last slots ≡ Some child
    → plays_on slots last ≡ true → last ≡ Some child
played words last slots child is plays =
    ap (λ on. if on then last else chosen_by words last slots) (sym plays) ∙ is

with_told : (slots : List Slot) (last : Option ℕ) (child : ℕ) (slot : Slot) (pick : Picked) → slot_at slots child ≡ slot
    → (plays_on slots last ≡ true → last ≡ Some child) → picked slots last (Some child) ≡ Some pick
    → (Some child ≡ Some pick.child) × (pick.cell.first ≡ not (plays_on slots last))
with_told slots last child None pick at plays is = let none : picked slots last (Some child) ≡ None = rw at refl in absurd cc
with_told slots last child (Some cell) pick at plays is =
    let some : picked slots last (Some child) ≡ Some (record { child = child; cell = picked_cell last child cell }) = rw at refl in
    let made : ◌≡◌ {A = Picked} (record { child = child; cell = picked_cell last child cell }) pick = same_Some _ _ (sym some ∙ is) in (
      ap (λ (p : Picked). Some p.child) made,
      sym (ap (λ (p : Picked). p.cell.first) made) ∙ flagged slots last child cell at plays,
    )

told_by : (words : Option Unread) (last : Option ℕ) (slots : List Slot) (pick : Picked) (used : Option ℕ) → used_by words last slots ≡ used
    → picked slots last used ≡ Some pick → (used ≡ Some pick.child) × (pick.cell.first ≡ not (plays_on slots last))
told_by words last slots pick None uses is = absurd cc
told_by words last slots pick (Some child) uses is =
    with_told slots last child (slot_at slots child) pick refl (played words last slots child uses) is

pub picked_tells : (words : Option Unread) (last : Option ℕ) (slots : List Slot) (pick : Picked) → picked slots last (used_by words last slots) ≡ Some pick
    → (used_by words last slots ≡ Some pick.child) × (pick.cell.first ≡ not (plays_on slots last))
picked_tells words last slots pick is = told_by words last slots pick (used_by words last slots) refl is
