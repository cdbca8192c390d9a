-- How a reader keeps its cells.
use Rattle.std.specs.Prelude.{◌≡◌, ◌<◌, ◌≤◌, Bool, true, false, List, ℕ, ◌+◌, length, max}
use Rattle.frame_core.specs.declared.cell.Cell.{Cell}
use Rattle.cell_ring.specs.Rings.{Ring}
use Rattle.op_leaf.specs.Readers.{flag_front}

-- the cells of a reader's queue as they are to be played: with true it has just begun to play, and the first cell is
-- marked as the beginning of a track
abbrev pub shown : Bool → List Cell → List Cell
shown true cells = flag_front cells
shown false cells = cells

-- The queue of a reader is in order: it has room for the chunk of a tick, which has `frame` cells, whenever the reader
-- wants one; the prefill is at least 1; and a reader that has just begun (`fresh`) plays and holds a cell.
pub record IsStore (queue : Ring) (prefill frame : ℕ) (playing fresh : Bool) : Type 0 where
  pub fits : max prefill frame + frame ≤ queue.room + 1
  pub some : 0 < prefill
  pub plays : fresh ≡ true → playing ≡ true
  pub holds : fresh ≡ true → 0 < length queue.cells
