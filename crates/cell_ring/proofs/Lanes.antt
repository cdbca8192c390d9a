-- Cells that are kept as lists side by side.
use Rattle.std.proofs.Common.{◌≡◌, ◌∙◌, ℕ, zero, suc, ℤ, false, List, [], ◌∷◌, length, take, map, replicate, slice_get, arith, ap, refl, sym}
use Rattle.std.proofs.lemmas.List.{take-map}
use Rattle.frame_core.specs.declared.cell.Cell.{Cell}
use Rattle.frame_core.specs.Slots.{goes_on}
use Rattle.frame_core.specs.declared.cell.CellMark.{CellMark}
use Rattle.cell_ring.specs.Lanes.{begins_none, has_name, slot_in}
use Rattle.frame_core.specs.Chunks.{cells_in}
use Rattle.frame_core.proofs.Chunks.{lefts_of, rights_of}
use Rattle.cell_ring.specs.Rings.{has_title, inner_cell, inner_cells}

-- the samples of the first of them
pub left_part : (n : ℕ) (lefts rights : List ℤ) (marks : List CellMark) → length lefts ≡ length marks → length rights ≡ length marks
    → take n lefts ≡ map (λ (c : Cell). c.left) (take n (cells_in lefts rights marks))
left_part n lefts rights marks l r = ap (take n) (sym (lefts_of lefts rights marks l r)) ∙ take-map (λ (c : Cell). c.left) n (cells_in lefts rights marks)

pub right_part : (n : ℕ) (lefts rights : List ℤ) (marks : List CellMark) → length lefts ≡ length marks → length rights ≡ length marks
    → take n rights ≡ map (λ (c : Cell). c.right) (take n (cells_in lefts rights marks))
right_part n lefts rights marks l r = ap (take n) (sym (rights_of lefts rights marks l r)) ∙ take-map (λ (c : Cell). c.right) n (cells_in lefts rights marks)

-- the cell at a place
pub cell_there : (lefts rights : List ℤ) (marks : List CellMark) (n : ℕ) → length lefts ≡ length marks → length rights ≡ length marks
    → slot_in (slice_get lefts n) (slice_get rights n) (slice_get marks n) ≡ slice_get (cells_in lefts rights marks) n
cell_there [] rights marks n l r = refl
cell_there (x ∷ lefts) rights [] n l r = absurd (omega (arith, l))
cell_there (x ∷ lefts) [] (m ∷ marks) n l r = absurd (omega (arith, r))
cell_there (x ∷ lefts) (y ∷ rights) (m ∷ marks) zero l r = refl
cell_there (x ∷ lefts) (y ∷ rights) (m ∷ marks) (suc n) l r = cell_there lefts rights marks n (omega (arith, l)) (omega (arith, r))

-- what its mark says of it
pub inner_there : (title : ℕ) (lefts rights : List ℤ) (marks : List CellMark) (n : ℕ) → length lefts ≡ length marks → length rights ≡ length marks
    → goes_on title (slice_get (cells_in lefts rights marks) n) ≡ begins_none title (slice_get marks n)
inner_there title [] rights [] n l r = refl
inner_there title [] rights (m ∷ marks) n l r = absurd (omega (arith, l))
inner_there title (x ∷ lefts) rights [] n l r = absurd (omega (arith, l))
inner_there title (x ∷ lefts) [] (m ∷ marks) n l r = absurd (omega (arith, r))
inner_there title (x ∷ lefts) (y ∷ rights) (m ∷ marks) zero l r = refl
inner_there title (x ∷ lefts) (y ∷ rights) (m ∷ marks) (suc n) l r = inner_there title lefts rights marks n (omega (arith, l)) (omega (arith, r))

pub title_there : (title : ℕ) (lefts rights : List ℤ) (marks : List CellMark) (n : ℕ) → length lefts ≡ length marks → length rights ≡ length marks
    → has_title title (slice_get (cells_in lefts rights marks) n) ≡ has_name title (slice_get marks n)
title_there title [] rights [] n l r = refl
title_there title [] rights (m ∷ marks) n l r = absurd (omega (arith, l))
title_there title (x ∷ lefts) rights [] n l r = absurd (omega (arith, l))
title_there title (x ∷ lefts) [] (m ∷ marks) n l r = absurd (omega (arith, r))
title_there title (x ∷ lefts) (y ∷ rights) (m ∷ marks) zero l r = refl
title_there title (x ∷ lefts) (y ∷ rights) (m ∷ marks) (suc n) l r = title_there title lefts rights marks n (omega (arith, l)) (omega (arith, r))

-- cells of one title
pub inner_in : (title : ℕ) (lefts rights : List ℤ) → length rights ≡ length lefts
    → cells_in lefts rights (replicate (length lefts) (record { first = false; title = title })) ≡ inner_cells title lefts rights
inner_in title [] rights same = refl
inner_in title (x ∷ lefts) [] same = refl
inner_in title (x ∷ lefts) (y ∷ rights) same = ap (λ cells. inner_cell title x y ∷ cells) (inner_in title lefts rights (omega (arith, same)))
