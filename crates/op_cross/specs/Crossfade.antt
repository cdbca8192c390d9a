-- The settled items of a crossfade over a list of slots.
use Rattle.std.specs.Prelude.{Bool, ◌||◌, Some, None, List, [], ◌∷◌, ◌++◌, ℕ, suc, ◌-◌, min, length, take, drop, map, nat_eq, nat_le, if◌then◌else◌}
use Rattle.frame_core.specs.declared.cell.Cell.{Cell}
use Rattle.sample_kernels.specs.Mixing.{faded}
use Rattle.frame_core.specs.Slots.{Slot}
use Rattle.op_cross.specs.Tracks.{Border, Flag, Gap, Unended, Piece, is_closed, track_pieces}

-- Cell `at` of the fade from track cell a to next-track cell b, over `whole` cells. Its samples are faded from a to b,
-- it has the title of b, and the first one alone begins a track.
abbrev pub mixed_cell : Cell → Cell → ℕ → ℕ → Cell
mixed_cell a b at whole = record {
  left = faded a.left b.left at whole;
  right = faded a.right b.right at whole;
  first = nat_eq at 0;
  title = b.title;
}

-- the fade from the end of one track, `from`, to the front of the next one, `to`: cell by cell, from cell `at` of
-- `whole` on
abbrev pub mixed_cells : List Cell → List Cell → ℕ → ℕ → List Slot
mixed_cells [] to at whole = []
mixed_cells (a ∷ from) [] at whole = []
mixed_cells (a ∷ from) (b ∷ to) at whole = Some (mixed_cell a b at whole) ∷ mixed_cells from to (suc at) whole

-- by how many cells a track r overlaps the next one: at most `most`, and no more than either has
abbrev pub overlap_of : ℕ → List Cell → List Cell → ℕ
overlap_of most r next = min most (min (length r) (length next))

-- whether enough of the next track is known to fade the end of track r into it: it has ended, or has as many cells as
-- may overlap
abbrev pub takes_part : ℕ → List Cell → Piece → Bool
takes_part most r next = is_closed next.border || nat_le (min most (length r)) (length next.cells)

-- What is settled of a track r while nothing after it is known: all but its last `most` cells, which may still be
-- faded into the next track.
abbrev pub held_back : ℕ → List Cell → List Slot
held_back most r = map Some (take (length r - min most (length r)) r)

-- the track r with its last o cells faded into the first o cells of the next track
abbrev pub overlapped : ℕ → List Cell → List Cell → List Slot
overlapped o r next = map Some (take (length r - o) r) ++ mixed_cells (drop (length r - o) r) (take o next) 0 o

-- The output of a crossfade that no later slot of its source changes, from the track r on. The border says what
-- follows r, and the pieces are the tracks behind it. Tracks overlap by at most `most` cells.
abbrev pub settled : ℕ → List Cell → Border → List Piece → List Slot
settled most r Unended pieces = held_back most r
settled most r Gap [] = map Some r ++ None ∷ []
settled most r Gap (next ∷ pieces) = map Some r ++ None ∷ settled most next.cells next.border pieces
settled most r Flag [] = held_back most r
settled most r Flag (next ∷ pieces) =
    if takes_part most r next
    then overlapped (overlap_of most r next.cells) r next.cells
    ++ settled most (drop (overlap_of most r next.cells) next.cells) next.border pieces
    else held_back most r

-- the output that is settled of a list of tracks with their borders, where tracks overlap by at most `most` cells
abbrev pub settled_from : ℕ → List Piece → List Slot
settled_from most [] = []
settled_from most (piece ∷ pieces) = settled most piece.cells piece.border pieces

-- The settled output of a crossfade (what no later slot changes) after these slots of its source: tracks one after
-- another, each faded into the next one over at most `most` cells.
abbrev pub cross : ℕ → List Slot → List Slot
cross most slots = settled_from most (track_pieces slots)
