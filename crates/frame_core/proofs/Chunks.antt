-- Cells that are kept as lists side by side.
use Rattle.std.proofs.Common.{◌≡◌, ◌<◌, ◌∙◌, ◌++◌, ℕ, zero, suc, ℤ, List, [], ◌∷◌, Some, length, drop, map, slice_get, slice_index_or, arith, ap, refl, sym}
use Rattle.frame_core.specs.declared.cell.Cell.{Cell}
use Rattle.frame_core.specs.declared.cell.CellMark.{CellMark}
use Rattle.frame_core.specs.Chunks.{cell_with, cells_in, mark_in}
use Rattle.frame_core.specs.Frames.{Laid, some_list}

pub length-cells : (lefts rights : List ℤ) (marks : List CellMark) → length lefts ≡ length marks → length rights ≡ length marks → length (cells_in lefts rights marks) ≡ length marks
length-cells [] rights [] l r = refl
length-cells [] rights (m ∷ marks) l r = absurd (omega (arith, l))
length-cells (x ∷ lefts) rights [] l r = absurd (omega (arith, l))
length-cells (x ∷ lefts) [] (m ∷ marks) l r = absurd (omega (arith, r))
length-cells (x ∷ lefts) (y ∷ rights) (m ∷ marks) l r = ap suc (length-cells lefts rights marks (omega (arith, l)) (omega (arith, r)))

-- more cells behind them
pub cells-append : (lefts rights : List ℤ) (marks : List CellMark) (xs ys : List ℤ) (ms : List CellMark) → length lefts ≡ length marks → length rights ≡ length marks
    → cells_in (lefts ++ xs) (rights ++ ys) (marks ++ ms) ≡ cells_in lefts rights marks ++ cells_in xs ys ms
cells-append [] [] [] xs ys ms l r = refl
cells-append [] (y ∷ rights) [] xs ys ms l r = absurd (omega (arith, r))
cells-append [] rights (m ∷ marks) xs ys ms l r = absurd (omega (arith, l))
cells-append (x ∷ lefts) rights [] xs ys ms l r = absurd (omega (arith, l))
cells-append (x ∷ lefts) [] (m ∷ marks) xs ys ms l r = absurd (omega (arith, r))
cells-append (x ∷ lefts) (y ∷ rights) (m ∷ marks) xs ys ms l r =
    ap (λ cells. cell_with x y m ∷ cells) (cells-append lefts rights marks xs ys ms (omega (arith, l)) (omega (arith, r)))

-- some of them are gone
pub cells-drop : (n : ℕ) (lefts rights : List ℤ) (marks : List CellMark) → length lefts ≡ length marks → length rights ≡ length marks
    → cells_in (drop n lefts) (drop n rights) (drop n marks) ≡ drop n (cells_in lefts rights marks)
cells-drop zero lefts rights marks l r = refl
cells-drop (suc n) [] rights marks l r = refl
cells-drop (suc n) (x ∷ lefts) rights [] l r = absurd (omega (arith, l))
cells-drop (suc n) (x ∷ lefts) [] (m ∷ marks) l r = absurd (omega (arith, r))
cells-drop (suc n) (x ∷ lefts) (y ∷ rights) (m ∷ marks) l r = cells-drop n lefts rights marks (omega (arith, l)) (omega (arith, r))

pub lefts_of : (lefts rights : List ℤ) (marks : List CellMark) → length lefts ≡ length marks → length rights ≡ length marks → map (λ (c : Cell). c.left) (cells_in lefts rights marks) ≡ lefts
lefts_of [] rights marks l r = refl
lefts_of (x ∷ lefts) rights [] l r = absurd (omega (arith, l))
lefts_of (x ∷ lefts) [] (m ∷ marks) l r = absurd (omega (arith, r))
lefts_of (x ∷ lefts) (y ∷ rights) (m ∷ marks) l r = ap (λ xs. x ∷ xs) (lefts_of lefts rights marks (omega (arith, l)) (omega (arith, r)))

pub rights_of : (lefts rights : List ℤ) (marks : List CellMark) → length lefts ≡ length marks → length rights ≡ length marks → map (λ (c : Cell). c.right) (cells_in lefts rights marks) ≡ rights
rights_of [] [] marks l r = refl
rights_of [] (y ∷ rights) [] l r = absurd (omega (arith, r))
rights_of [] rights (m ∷ marks) l r = absurd (omega (arith, l))
rights_of (x ∷ lefts) rights [] l r = absurd (omega (arith, l))
rights_of (x ∷ lefts) [] (m ∷ marks) l r = absurd (omega (arith, r))
rights_of (x ∷ lefts) (y ∷ rights) (m ∷ marks) l r = ap (λ xs. y ∷ xs) (rights_of lefts rights marks (omega (arith, l)) (omega (arith, r)))

pub marks_of_cells : (lefts rights : List ℤ) (marks : List CellMark) → length lefts ≡ length marks → length rights ≡ length marks → map mark_in (cells_in lefts rights marks) ≡ marks
marks_of_cells [] rights [] l r = refl
marks_of_cells [] rights (m ∷ marks) l r = absurd (omega (arith, l))
marks_of_cells (x ∷ lefts) rights [] l r = absurd (omega (arith, l))
marks_of_cells (x ∷ lefts) [] (m ∷ marks) l r = absurd (omega (arith, r))
marks_of_cells (x ∷ lefts) (y ∷ rights) (m ∷ marks) l r = ap (λ ms. m ∷ ms) (marks_of_cells lefts rights marks (omega (arith, l)) (omega (arith, r)))

-- the cells of what a chunk has
pub cells_again : (cells : List Cell) → cells_in (map (λ (c : Cell). c.left) cells) (map (λ (c : Cell). c.right) cells) (map mark_in cells) ≡ cells
cells_again [] = refl
cells_again (c ∷ cells) = ap (λ cs. c ∷ cs) (cells_again cells)

-- what a read of the three lists at a place gives
pub read_cell : (lefts rights : List ℤ) (marks : List CellMark) (cells : List Cell) (at : ℕ) (left right : ℤ) (mark : CellMark) → at < length marks
    → length lefts ≡ length marks → length rights ≡ length marks → cells_in lefts rights marks ≡ cells
    → left ≡ slice_index_or lefts at left → right ≡ slice_index_or rights at right → mark ≡ slice_index_or marks at mark → Some (cell_with left right mark) ≡ slice_get cells at
read_cell lefts rights marks cells at left right mark h l r is x y m =
    ap (λ u. Some (cell_with u right mark)) x ∙ ap (λ u. Some (cell_with (slice_index_or lefts at left) u mark)) y ∙ ap (λ u. Some (cell_with (slice_index_or lefts at left) (slice_index_or rights at right) u)) m
    ∙ there lefts rights marks at left right mark h l r ∙ ap (λ cs. slice_get cs at) is
  where
    there : (lefts rights : List ℤ) (marks : List CellMark) (at : ℕ) (left right : ℤ) (mark : CellMark) → at < length marks → length lefts ≡ length marks → length rights ≡ length marks
        → Some (cell_with (slice_index_or lefts at left) (slice_index_or rights at right) (slice_index_or marks at mark)) ≡ slice_get (cells_in lefts rights marks) at
    there lefts rights [] at left right mark h l r = absurd (omega (arith, h))
    there [] rights (m ∷ marks) at left right mark h l r = absurd (omega (arith, l))
    there (x ∷ lefts) [] (m ∷ marks) at left right mark h l r = absurd (omega (arith, r))
    there (x ∷ lefts) (y ∷ rights) (m ∷ marks) zero left right mark h l r = refl
    there (x ∷ lefts) (y ∷ rights) (m ∷ marks) (suc at) left right mark h l r = there lefts rights marks at left right mark (omega (arith, h)) (omega (arith, l)) (omega (arith, r))

-- the cells are those of lists that are kept side by side
pub same_cells : (lefts rights lefts_too rights_too : List ℤ) (marks marks_too : List CellMark)
    → length lefts ≡ length marks → length rights ≡ length marks → length lefts_too ≡ length marks_too → length rights_too ≡ length marks_too
    → cells_in lefts rights marks ≡ cells_in lefts_too rights_too marks_too → (lefts ≡ lefts_too) × (rights ≡ rights_too) × (marks ≡ marks_too)
same_cells lefts rights lefts_too rights_too marks marks_too l r l_too r_too is = (
  sym (lefts_of lefts rights marks l r) ∙ ap (map (λ (c : Cell). c.left)) is ∙ lefts_of lefts_too rights_too marks_too l_too r_too,
  sym (rights_of lefts rights marks l r) ∙ ap (map (λ (c : Cell). c.right)) is ∙ rights_of lefts_too rights_too marks_too l_too r_too,
  sym (marks_of_cells lefts rights marks l r) ∙ ap (map mark_in) is ∙ marks_of_cells lefts_too rights_too marks_too l_too r_too,
)

pub some_cells : (cells all : List Cell) → 0 < length cells → cells ≡ all → Some cells ≡ some_list all
some_cells cells [] more is = absurd (omega (arith, more, ap length is))
some_cells cells (c ∷ all) more is = ap Some is

-- these cells, and room for so many
abbrev laid_as : List Cell → ℕ → Laid
laid_as cells room = record { cells = cells; room = room }

-- how many cells a frame has
pub held : (lefts rights : List ℤ) (marks : List CellMark) (room : ℕ) (was : Laid) → length lefts ≡ length marks → length rights ≡ length marks
    → laid_as (cells_in lefts rights marks) room ≡ was → length was.cells ≡ length marks
held lefts rights marks room was l r is = sym (ap (λ (f : Laid). length f.cells) is) ∙ length-cells lefts rights marks l r

-- cells are laid behind those that it has
pub laid : (lefts rights : List ℤ) (marks : List CellMark) (room : ℕ) (was : Laid) (xs ys : List ℤ) (ms : List CellMark) → length lefts ≡ length marks → length rights ≡ length marks
    → laid_as (cells_in lefts rights marks) room ≡ was
    → {now_lefts now_rights : List ℤ} {now_marks : List CellMark} → now_lefts ≡ lefts ++ xs → now_rights ≡ rights ++ ys → now_marks ≡ marks ++ ms
    → laid_as (cells_in now_lefts now_rights now_marks) room ≡ laid_as (was.cells ++ cells_in xs ys ms) was.room
laid lefts rights marks room was xs ys ms l r is {now_lefts} {now_rights} {now_marks} nl nr nm =
    ap (λ us. laid_as (cells_in us now_rights now_marks) room) nl
    ∙ ap (λ us. laid_as (cells_in (lefts ++ xs) us now_marks) room) nr
    ∙ ap (λ us. laid_as (cells_in (lefts ++ xs) (rights ++ ys) us) room) nm
    ∙ ap (λ cs. laid_as cs room) (cells-append lefts rights marks xs ys ms l r)
    ∙ ap (λ (f : Laid). laid_as (f.cells ++ cells_in xs ys ms) f.room) is
