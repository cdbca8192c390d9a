-- A reader that gives some cells at once.
use Rattle.std.proofs.Common.{◌≡◌, ◌<◌, ◌≤◌, ◌+◌, ◌-◌, ◌∙◌, ℕ, ℤ, zero, suc, Bool, true, false, Some, IsSome, List, [], ◌∷◌, length, map, take, drop, slice_get, arith, refl, ap, sym, subst}
use Rattle.std.specs.List.{range_with_len}
use Rattle.std.proofs.lemmas.Bool.{false≢true}
use Rattle.frame_core.specs.declared.cell.Cell.{Cell}
use Rattle.frame_core.specs.Slots.{Slot, title_of, goes_on, is_inner, slot_left, slot_right}
use Rattle.op_leaf.specs.Inner.{lefts_of, rights_of, titled_stretch}
use Rattle.op_leaf.specs.Lanes.{IsLane, IsOneTrack}
use Rattle.op_leaf.specs.Readers.{Reader, read_by, reader_slot}
use Rattle.op_leaf.specs.Stores.{shown}
use Rattle.op_leaf.proofs.Onward.{played, plays_on}
use Rattle.op_leaf.proofs.Stretching.{going_inner, inner_some, titled_is}

abbrev pub reader_of : Bool → Bool → List Cell → ℕ → ℕ → Reader
reader_of playing fresh cells prefill frame = record { cells = shown fresh cells; playing = playing; prefill = prefill; frame = frame }

-- a reader that offers a cell plays
plays_here : (playing fresh : Bool) (cells : List Cell) (prefill frame : ℕ) → IsSome (reader_slot (reader_of playing fresh cells prefill frame)) → playing ≡ true
plays_here true fresh cells prefill frame e = refl
plays_here false fresh cells prefill frame e = absurd (false≢true e)

-- what is shown differs in the front cell's mark alone
shown_behind : (fresh : Bool) (cells : List Cell) (j : ℕ) → 0 < j → slice_get (shown fresh cells) j ≡ slice_get cells j
shown_behind false cells j some = refl
shown_behind true [] j some = refl
shown_behind true (cell ∷ cells) zero some = absurd (omega (arith, some))
shown_behind true (cell ∷ cells) (suc j) some = refl

shown_long : (fresh : Bool) (cells : List Cell) → length (shown fresh cells) ≡ length cells
shown_long false cells = refl
shown_long true [] = refl
shown_long true (cell ∷ cells) = refl

shown_dropped : (fresh : Bool) (cells : List Cell) (count : ℕ) → 0 < count → drop count (shown fresh cells) ≡ drop count cells
shown_dropped false cells count some = refl
shown_dropped true [] count some = refl
shown_dropped true (cell ∷ cells) zero some = absurd (omega (arith, some))
shown_dropped true (cell ∷ cells) (suc count) some = refl

shown_title : (fresh : Bool) (cells : List Cell) → title_of (slice_get (shown fresh cells) 0) ≡ title_of (slice_get cells 0)
shown_title false cells = refl
shown_title true [] = refl
shown_title true (cell ∷ cells) = refl

shown_lefts : (fresh : Bool) (cells : List Cell) (count : ℕ) → map (λ (cell : Cell). cell.left) (take count (shown fresh cells)) ≡ map (λ (cell : Cell). cell.left) (take count cells)
shown_lefts false cells count = refl
shown_lefts true [] count = refl
shown_lefts true (cell ∷ cells) zero = refl
shown_lefts true (cell ∷ cells) (suc count) = refl

shown_rights : (fresh : Bool) (cells : List Cell) (count : ℕ) → map (λ (cell : Cell). cell.right) (take count (shown fresh cells)) ≡ map (λ (cell : Cell). cell.right) (take count cells)
shown_rights false cells count = refl
shown_rights true [] count = refl
shown_rights true (cell ∷ cells) zero = refl
shown_rights true (cell ∷ cells) (suc count) = refl

within_by : (cells : List Cell) (j : ℕ) → IsSome (slice_get cells j) → j < length cells
within_by [] j e = absurd (false≢true e)
within_by (cell ∷ cells) zero e = omega arith
within_by (cell ∷ cells) (suc j) e = let low = within_by cells j e in omega (arith, low)

taken : (side : Cell → ℤ) (of_slot : Slot → ℤ) → ((cell : Cell) → of_slot (Some cell) ≡ side cell) → (cells : List Cell) (count : ℕ) → count ≤ length cells → (at : ℕ) (slots : ℕ → Slot)
    → ((j : ℕ) → j < count → slots (at + j) ≡ slice_get cells j) → map side (take count cells) ≡ map (λ q. of_slot (slots q)) (range_with_len at count)
taken side of_slot same cells zero there at slots are = refl
taken side of_slot same [] (suc count) there at slots are = absurd (omega (arith, there))
taken side of_slot same (cell ∷ cells) (suc count) there at slots are =
    let e : at + 0 ≡ at = omega arith in
    ap (λ x. x ∷ map side (take count cells)) (sym (same cell) ∙ sym (ap of_slot (sym (ap slots e) ∙ are 0 (omega arith))))
    ∙ ap (λ l. of_slot (slots at) ∷ l) (taken side of_slot same cells count (omega (arith, there)) (at + 1) slots
    (λ j low. let f : at + 1 + j ≡ at + suc j = omega arith in ap slots f ∙ are (suc j) (omega (arith, low))))

-- each slot of a stretch is a cell
each_some : (slots : ℕ → Slot) (count : ℕ) → IsOneTrack slots count → (j : ℕ) → j < count → IsSome (slots j)
each_some slots count ahead zero low = ahead.here
each_some slots count ahead (suc j) low = inner_some (slots (suc j)) (ahead.inner (suc j) (omega arith) low)

-- a reader that offers a cell
module _ (reader : Reader) (playing fresh : Bool) (cells : List Cell) (prefill frame : ℕ) (is : reader ≡ reader_of playing fresh cells prefill frame)
    (here : IsSome (reader_slot reader)) where
  abbrev Slots : ℕ → Slot
  Slots = λ j. reader_slot (read_by j reader)

  is_playing : playing ≡ true
  is_playing = plays_here playing fresh cells prefill frame (subst (λ r. IsSome (reader_slot r)) is here)

  slots_shown : (j : ℕ) → Slots j ≡ slice_get (shown fresh cells) j
  slots_shown j = plays_on reader j (ap (λ (r : Reader). r.playing) is ∙ is_playing) ∙ ap (λ (r : Reader). slice_get r.cells j) is

  slots_behind : (j : ℕ) → 0 < j → Slots j ≡ slice_get cells j
  slots_behind j some = slots_shown j ∙ shown_behind fresh cells j some

  -- so many cells of the ring behind the front one have its title and begin no track, and the next one has another one or does, or
  -- there is none
  module _ (title most count : ℕ) (titled : title ≡ title_of (slice_get cells 0)) (within : count < most)
      (inner : (j : ℕ) → j < count → goes_on title (slice_get cells (1 + j)) ≡ true)
      (ends : count < most - 1 → goes_on title (slice_get cells (1 + count)) ≡ false) where
    one_title : title ≡ title_of (Slots 0)
    one_title = titled ∙ sym (shown_title fresh cells) ∙ sym (ap title_of (slots_shown 0))

    going : (j : ℕ) → 0 < j → j < 1 + count → goes_on title (Slots j) ≡ true
    going zero some low = absurd (omega (arith, some))
    going (suc j) some low = let e : 1 + j ≡ suc j = omega arith in
        ap (goes_on title) (slots_behind (suc j) some) ∙ sym (ap (λ n. goes_on title (slice_get cells n)) e) ∙ inner j (omega (arith, low))

    behind : (j : ℕ) → 0 < j → j < 1 + count → is_inner (Slots j) ≡ true
    behind j some low = going_inner title (Slots j) (going j some low)

    pub stretches : 1 + count ≡ titled_stretch Slots 0 most
    stretches = titled_is Slots 0 most (1 + count) (omega arith) (omega (arith, within))
        (λ j some low. let e : 0 + j ≡ j = omega arith in
        ap (λ n. goes_on (title_of (Slots 0)) (Slots n)) e ∙ ap (λ t. goes_on t (Slots j)) (sym one_title) ∙ going j some low)
        (λ less. let e : 0 + (1 + count) ≡ 1 + count = omega arith in
        ap (λ n. goes_on (title_of (Slots 0)) (Slots n)) e ∙ ap (λ t. goes_on t (Slots (1 + count))) (sym one_title)
        ∙ ap (goes_on title) (slots_behind (1 + count) (omega arith)) ∙ ends (omega (arith, less)))

    pub lies_ahead : IsOneTrack Slots (1 + count)
    lies_ahead = record { here = here; inner = behind }

  module _ (count : ℕ) (some : 0 < count) (ahead : IsOneTrack Slots count) where
    pub are_there : count ≤ length cells
    are_there =
        let last = within_by (shown fresh cells) (count - 1) (subst (λ slot. IsSome slot) (slots_shown (count - 1)) (each_some Slots count ahead (count - 1) (omega (arith, some)))) in
        let long = shown_long fresh cells in
        omega (arith, last, some, long)

    pub reads_on : read_by count reader ≡ reader_of playing false (drop count cells) prefill frame
    reads_on =
        ap (read_by count) (is ∙ ap (λ on. reader_of on fresh cells prefill frame) is_playing)
        ∙ played count (shown fresh cells) prefill frame
        ∙ ap (λ (held : List Cell). reader_of true false held prefill frame) (shown_dropped fresh cells count some)
        ∙ sym (ap (λ on. reader_of on false (drop count cells) prefill frame) is_playing)

    shown_there : count ≤ length (shown fresh cells)
    shown_there = let long = shown_long fresh cells in let low = are_there in omega (arith, long, low)

    slots_from : (j : ℕ) → j < count → Slots (0 + j) ≡ slice_get (shown fresh cells) j
    slots_from j low = let e : 0 + j ≡ j = omega arith in ap Slots e ∙ slots_shown j

    pub lefts_are : map (λ (cell : Cell). cell.left) (take count cells) ≡ lefts_of Slots 0 count
    lefts_are = sym (shown_lefts fresh cells count) ∙ taken (λ (cell : Cell). cell.left) slot_left (λ cell. refl) (shown fresh cells) count shown_there 0 Slots slots_from

    pub rights_are : map (λ (cell : Cell). cell.right) (take count cells) ≡ rights_of Slots 0 count
    rights_are = sym (shown_rights fresh cells count) ∙ taken (λ (cell : Cell). cell.right) slot_right (λ cell. refl) (shown fresh cells) count shown_there 0 Slots slots_from

-- a stretch whose first cell begins no track either is a lane
pub stretch_lane : (slots : ℕ → Slot) (count : ℕ) (left right : List ℤ) → IsOneTrack slots count → left ≡ lefts_of slots 0 count → right ≡ rights_of slots 0 count
    → is_inner (slots 0) ≡ true → IsLane slots count left right
stretch_lane slots count left right ahead left_is right_is first = record {
  left_is = left_is;
  right_is = right_is;
  inner = each;
}
  where
    each : (j : ℕ) → j < count → is_inner (slots j) ≡ true
    each zero low = first
    each (suc j) low = ahead.inner (suc j) (omega arith) low
