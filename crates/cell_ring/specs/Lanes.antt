-- What marks say of cells.
use Rattle.std.specs.Prelude.{Bool, false, not, ◌&&◌, ℕ, ℤ, Option, Some, None, nat_eq}
use Rattle.frame_core.specs.declared.cell.CellMark.{CellMark}
use Rattle.frame_core.specs.Chunks.{cell_with}
use Rattle.frame_core.specs.Slots.{Slot}

-- the cell of a left sample, a right sample and a mark (title, and whether a track begins); nothing where one of the
-- three is missing
abbrev pub slot_in : Option ℤ → Option ℤ → Option CellMark → Slot
slot_in (Some left) (Some right) (Some mark) = Some (cell_with left right mark)
slot_in (Some left) (Some right) None = None
slot_in (Some left) None mark = None
slot_in None right mark = None

-- whether there is a mark (what a cell has beside its samples) that has this title and begins no track
abbrev pub begins_none : (title : ℕ) → Option CellMark → Bool
begins_none title None = false
begins_none title (Some mark) = not mark.first && nat_eq mark.title title

-- whether there is a mark (what a cell has beside its samples), and it has this title
abbrev pub has_name : (title : ℕ) → Option CellMark → Bool
has_name title None = false
has_name title (Some mark) = nat_eq mark.title title
