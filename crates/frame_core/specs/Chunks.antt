-- Cells that are kept as lists side by side.
use Rattle.std.specs.Prelude.{ℤ, List, [], ◌∷◌}
use Rattle.frame_core.specs.declared.cell.Cell.{Cell}
use Rattle.frame_core.specs.declared.cell.CellMark.{CellMark}

-- the cell of a left sample, a right sample and a mark, which says whether a track begins there and what its title is
abbrev pub cell_with : ℤ → ℤ → CellMark → Cell
cell_with left right mark = record { left = left; right = right; first = mark.first; title = mark.title }

-- what a cell has beside its samples: whether a track begins there, and the title of the track
abbrev pub mark_in : Cell → CellMark
mark_in cell = record { first = cell.first; title = cell.title }

-- the cells of three lists side by side: left samples, right samples and marks; the shortest list ends them
abbrev pub cells_in : List ℤ → List ℤ → List CellMark → List Cell
cells_in (left ∷ lefts) (right ∷ rights) (mark ∷ marks) = cell_with left right mark ∷ cells_in lefts rights marks
cells_in (left ∷ lefts) (right ∷ rights) [] = []
cells_in (left ∷ lefts) [] marks = []
cells_in [] rights marks = []
