-- The cells of a lane.
use Rattle.std.proofs.Common.{◌≡◌, ◌<◌, ◌+◌, ◌∙◌, ℕ, ℤ, zero, suc, Bool, true, false, not, Some, None, List, ◌∷◌, map, arith, refl, ap, sym}
use Rattle.std.specs.List.{range_with_len}
use Rattle.std.proofs.lemmas.Bool.{false≢true}
use Rattle.frame_core.specs.Slots.{Slot, title_of, is_inner, slot_left, slot_right}
use Rattle.cell_ring.specs.Rings.{inner_cell, inner_cells}
use Rattle.op_leaf.specs.Inner.{lefts_of, rights_of}
use Rattle.op_leaf.specs.Lanes.{AreTitled, IsLane, IsOneTrack}
use Rattle.op_leaf.proofs.Stretching.{inner_some}

unmarked : (first : Bool) → not first ≡ true → false ≡ first
unmarked true e = absurd (false≢true e)
unmarked false e = refl

pub inner_is : (slot : Slot) → is_inner slot ≡ true → Some (inner_cell (title_of slot) (slot_left slot) (slot_right slot)) ≡ slot
inner_is None e = absurd (false≢true e)
inner_is (Some cell) e =
    ap (λ (first : Bool). Some (record { left = cell.left; right = cell.right; first = first; title = cell.title })) (unmarked cell.first e)

cells_are : (slots : ℕ → Slot) (title position count : ℕ) → ((j : ℕ) → j < count → is_inner (slots (position + j)) ≡ true)
    → ((j : ℕ) → j < count → title_of (slots (position + j)) ≡ title)
    → map Some (inner_cells title (lefts_of slots position count) (rights_of slots position count)) ≡ map slots (range_with_len position count)
cells_are slots title position zero inner titled = refl
cells_are slots title position (suc count) inner titled =
    let e : position + 0 ≡ position = omega arith in
    let here : is_inner (slots position) ≡ true = sym (ap (λ n. is_inner (slots n)) e) ∙ inner 0 (omega arith) in
    let name : title_of (slots position) ≡ title = sym (ap (λ n. title_of (slots n)) e) ∙ titled 0 (omega arith) in
    ap (λ (slot : Slot). slot ∷ map Some (inner_cells title (lefts_of slots (position + 1) count) (rights_of slots (position + 1) count)))
    (ap (λ t. Some (inner_cell t (slot_left (slots position)) (slot_right (slots position)))) (sym name) ∙ inner_is (slots position) here)
    ∙ ap (λ l. slots position ∷ l) (cells_are slots title (position + 1) count
    (λ j low. let f : position + 1 + j ≡ position + suc j = omega arith in ap (λ n. is_inner (slots n)) f ∙ inner (suc j) (omega (arith, low)))
    (λ j low. let f : position + 1 + j ≡ position + suc j = omega arith in ap (λ n. title_of (slots n)) f ∙ titled (suc j) (omega (arith, low))))

-- the cells of a lane of one title are the slots
pub lane_cells : (slots : ℕ → Slot) (count title : ℕ) (left right : List ℤ) → IsLane slots count left right → AreTitled slots count title
    → map Some (inner_cells title left right) ≡ map slots (range_with_len 0 count)
lane_cells slots count title left right lane titled =
    ap (λ l. map Some (inner_cells title l right)) lane.left_is ∙ ap (λ l. map Some (inner_cells title (lefts_of slots 0 count) l)) lane.right_is
    ∙ cells_are slots title 0 count (λ j low. let e : 0 + j ≡ j = omega arith in ap (λ n. is_inner (slots n)) e ∙ lane.inner j low)
    (λ j low. let e : 0 + j ≡ j = omega arith in ap (λ n. title_of (slots n)) e ∙ titled j low)

pub moved_same : {A : Type 0} (f g : ℕ → A) (a b n : ℕ) → ((i : ℕ) → i < n → f (a + i) ≡ g (b + i)) → map f (range_with_len a n) ≡ map g (range_with_len b n)
moved_same f g a b zero same = refl
moved_same f g a b (suc n) same =
    let e : a + 0 ≡ a = omega arith in let d : b + 0 ≡ b = omega arith in
    ap (λ x. x ∷ map f (range_with_len (a + 1) n)) (sym (ap f e) ∙ same 0 (omega arith) ∙ ap g d)
    ∙ ap (λ l. g b ∷ l) (moved_same f g (a + 1) (b + 1) n (λ i low.
    let p : a + 1 + i ≡ a + suc i = omega arith in let q : b + suc i ≡ b + 1 + i = omega arith in ap f p ∙ same (suc i) (omega (arith, low)) ∙ ap g q))

-- over the first so many positions
pub each_same : {A : Type 0} (f g : ℕ → A) (n : ℕ) → ((i : ℕ) → i < n → f i ≡ g i) → map f (range_with_len 0 n) ≡ map g (range_with_len 0 n)
each_same f g n same = moved_same f g 0 0 n (λ i low. let e : 0 + i ≡ i = omega arith in ap f e ∙ same i low ∙ sym (ap g e))

-- a lane of these slots is one of others that are equal: the lane of a child that is picked
pub lane_of_same : (slots others : ℕ → Slot) (count : ℕ) (left right : List ℤ) → ((j : ℕ) → j < count → others j ≡ slots j)
    → IsLane slots count left right → IsLane others count left right
lane_of_same slots others count left right same lane = record {
  left_is = lane.left_is ∙ each_same (λ q. slot_left (slots q)) (λ q. slot_left (others q)) count (λ j low. sym (ap slot_left (same j low)));
  right_is = lane.right_is ∙ each_same (λ q. slot_right (slots q)) (λ q. slot_right (others q)) count (λ j low. sym (ap slot_right (same j low)));
  inner = λ j low. ap is_inner (same j low) ∙ lane.inner j low;
}

-- the samples from a position on are a lane of what is offered from there on: the lane of a leaf
pub lane_from : (slots : ℕ → Slot) (position count : ℕ) (left right : List ℤ) → left ≡ lefts_of slots position count → right ≡ rights_of slots position count
    → ((j : ℕ) → j < count → is_inner (slots (position + j)) ≡ true) → IsLane (λ j. slots (position + j)) count left right
lane_from slots position count left right left_is right_is inner = record {
  left_is = left_is ∙ moved_same (λ q. slot_left (slots q)) (λ q. slot_left (slots (position + q))) position 0 count
      (λ i low. let e : 0 + i ≡ i = omega arith in sym (ap (λ n. slot_left (slots (position + n))) e));
  right_is = right_is ∙ moved_same (λ q. slot_right (slots q)) (λ q. slot_right (slots (position + q))) position 0 count
      (λ i low. let e : 0 + i ≡ i = omega arith in sym (ap (λ n. slot_right (slots (position + n))) e));
  inner = inner;
}

-- cells that begin no track are of one
pub inner_track : (slots : ℕ → Slot) (count : ℕ) → 0 < count → ((j : ℕ) → j < count → is_inner (slots j) ≡ true) → IsOneTrack slots count
inner_track slots count some inner = record {
  here = inner_some (slots 0) (inner 0 some);
  inner = λ j more low. inner j low;
}
