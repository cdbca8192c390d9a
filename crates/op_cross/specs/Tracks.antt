-- A list of slots, cut into tracks.
use Rattle.std.specs.Prelude.{Bool, true, false, Some, None, List, [], ◌∷◌, if◌then◌else◌}
use Rattle.frame_core.specs.declared.cell.Cell.{Cell}
use Rattle.frame_core.specs.Slots.{Slot, is_first}

-- what follows a track in a list of slots: a cell that begins a track (`Flag`), an empty slot (`Gap`), or nothing yet
-- (`Unended`)
pub data Border : Type 0 where
  Flag : Border
  Gap : Border
  Unended : Border

-- a piece of a list of slots: the cells of one track, and what follows it
pub record Piece : Type 0 where
  pub cells : List Cell
  pub border : Border

-- whether a track has ended, by what follows it: a new track or an empty slot ends it
abbrev pub is_closed : Border → Bool
is_closed Flag = true
is_closed Gap = true
is_closed Unended = false

-- whether the first of these slots has a cell that begins a track
abbrev pub begins_track : List Slot → Bool
begins_track [] = false
begins_track (slot ∷ slots) = is_first slot

-- the pieces with one more cell at the front of the first track; without a piece the cell is a track that has not ended
abbrev pub with_front : Cell → List Piece → List Piece
with_front cell [] = record { cells = cell ∷ []; border = Unended } ∷ []
with_front cell (piece ∷ pieces) = record { cells = cell ∷ piece.cells; border = piece.border } ∷ pieces

-- a list of slots cut into tracks: after each empty slot, and before each cell that begins a track
abbrev pub track_pieces : List Slot → List Piece
track_pieces [] = []
track_pieces (None ∷ slots) = record { cells = []; border = Gap } ∷ track_pieces slots
track_pieces (Some cell ∷ slots) =
    if begins_track slots
    then record { cells = cell ∷ []; border = Flag } ∷ track_pieces slots
    else with_front cell (track_pieces slots)
