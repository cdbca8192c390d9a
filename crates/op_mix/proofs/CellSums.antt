-- Sums of cells, one cell at a time.
use Rattle.std.proofs.Common.{◌≡◌, ◌∙◌, ◌<◌, ◌≤◌, ◌+◌, ◌++◌, ℕ, ℤ, pos, ◌+ℤ◌, Bool, Some, None, List, [], ◌∷◌, length, take, get_or, refl, ap, sym, arith, length-append}
use Rattle.std.proofs.lemmas.Int.{ints}
use Rattle.std.proofs.lemmas.List.{take_more, length-take, append-nil}
use Rattle.frame_core.specs.declared.cell.Cell.{Cell}
use Rattle.frame_core.specs.Slots.{Slot}
use Rattle.stream_meaning.specs.Arithmetic.{cells_of, levelled, total_by, summed_slot}
use Rattle.sample_kernels.specs.Samples.{IsSumOf}
use Rattle.op_mix.specs.Mixings.{front_of}

-- so far the sums and the number of these cells
pub record Summed (cells : List Cell) (left right : ℤ) (parts : ℕ) : Type 0 where
  pub left_is : left ≡ total_by (λ cell. cell.left) cells
  pub right_is : right ≡ total_by (λ cell. cell.right) cells
  pub parts_is : parts ≡ length cells
  pub left_fits : IsSumOf parts left
  pub right_fits : IsSumOf parts right

pub cells_of-append : (xs ys : List Slot) → cells_of (xs ++ ys) ≡ cells_of xs ++ cells_of ys
cells_of-append [] ys = refl
cells_of-append (None ∷ xs) ys = cells_of-append xs ys
cells_of-append (Some cell ∷ xs) ys = ap (λ cells. cell ∷ cells) (cells_of-append xs ys)

pub few_cells : (xs : List Slot) → length (cells_of xs) ≤ length xs
few_cells [] = omega arith
few_cells (None ∷ xs) = let few = few_cells xs in omega arith
few_cells (Some cell ∷ xs) = let few = few_cells xs in omega arith

pub sum_of-more : (sample : Cell → ℤ) (cells : List Cell) (cell : Cell) → total_by sample (cells ++ cell ∷ []) ≡ total_by sample cells +ℤ sample cell
sum_of-more sample [] cell = omega (arith, ints)
sum_of-more sample (one ∷ cells) cell = let more = sum_of-more sample cells cell in omega (arith, ints, more)

-- one cell more
pub Summed-more : (cells : List Cell) (cell : Cell) (left right more_left more_right : ℤ) (parts : ℕ) → Summed cells left right parts
    → more_left ≡ left +ℤ cell.left → IsSumOf (parts + 1) more_left → more_right ≡ right +ℤ cell.right → IsSumOf (parts + 1) more_right
    → Summed (cells ++ cell ∷ []) more_left more_right (parts + 1)
Summed-more cells cell left right more_left more_right parts before left_is left_fits right_is right_fits = record {
  left_is = left_is ∙ ap (λ sum. sum +ℤ cell.left) before.left_is ∙ sym (sum_of-more (λ one. one.left) cells cell);
  right_is = right_is ∙ ap (λ sum. sum +ℤ cell.right) before.right_is ∙ sym (sum_of-more (λ one. one.right) cells cell);
  parts_is = let more = length-append cells (cell ∷ []) in let so_far = before.parts_is in omega (arith, more, so_far);
  left_fits = left_fits;
  right_fits = right_fits;
}

-- the cells of one slot more
pub after_none : (slots : List Slot) (at : ℕ) → at < length slots → get_or slots at None ≡ None → cells_of (take (at + 1) slots) ≡ cells_of (take at slots)
after_none slots at within is =
    ap cells_of (take_more slots at None within) ∙ cells_of-append (take at slots) (get_or slots at None ∷ [])
    ∙ ap (λ (one : Slot). cells_of (take at slots) ++ cells_of (one ∷ [])) is ∙ append-nil (cells_of (take at slots))

pub after_cell : (slots : List Slot) (at : ℕ) (cell : Cell) → at < length slots → get_or slots at None ≡ Some cell
    → cells_of (take (at + 1) slots) ≡ cells_of (take at slots) ++ cell ∷ []
after_cell slots at cell within is =
    ap cells_of (take_more slots at None within) ∙ cells_of-append (take at slots) (get_or slots at None ∷ [])
    ∙ ap (λ (one : Slot). cells_of (take at slots) ++ cells_of (one ∷ [])) is

pub none_of : (slot : Slot) → ((cell : Cell) → slot ≡ Some cell → ⊥) → slot ≡ None
none_of None other = refl
none_of (Some cell) other = absurd (other cell refl)

-- fewer cells than slots, of which one more is there
pub room_for_more : (slots : List Slot) (at parts : ℕ) → at < length slots → length slots ≤ 65535 → parts ≡ length (cells_of (take at slots)) → parts < 65535
room_for_more slots at parts within few is =
    let cells = few_cells (take at slots) in let taken = length-take at slots in omega (arith, cells, taken)

-- the sum of all cells, where there is a first one
pub summed_by : (normalize : Bool) (cells : List Cell) (first : Cell) (left right : ℤ) (parts : ℕ) → front_of cells ≡ Some first → Summed cells left right parts
    → Some (record { left = levelled normalize parts left; right = levelled normalize parts right; first = first.first; title = first.title }) ≡ summed_slot normalize cells
summed_by normalize [] first left right parts is sums = cc
summed_by normalize (cell ∷ cells) first left right parts is sums = rw (sums.left_is, sums.right_is, sums.parts_is) (let same : first ≡ cell = cc in rw same refl)

pub some_parts : (cells : List Cell) (first : Cell) (left right : ℤ) (parts : ℕ) → front_of cells ≡ Some first → Summed cells left right parts → 0 < parts
some_parts [] first left right parts is sums = cc
some_parts (cell ∷ cells) first left right parts is sums = let many = sums.parts_is in omega arith
