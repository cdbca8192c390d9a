-- The reader of a buffer: the cells that it holds, and whether it plays.
use Rattle.std.specs.Prelude.{Bool, true, false, Some, None, List, [], ◌∷◌, ◌++◌, ℕ, zero, suc, ◌-◌, length, drop, nat_lt, nat_le, if◌then◌else◌}
use Rattle.frame_core.specs.declared.cell.Cell.{Cell}
use Rattle.frame_core.specs.Slots.{Slot}
use Rattle.frame_core.specs.Calls.{Answer}

-- The node that plays the cells of a buffer. It has the cells that it took and did not yet play, whether it plays, its
-- prefill, which is how many it collects before it begins, and how many samples a tick has.
pub record Reader : Type 0 where
  pub cells : List Cell
  pub playing : Bool
  pub prefill : ℕ
  pub frame : ℕ

-- how many cells the reader of a buffer is to hold at the start of a tick: those of a tick while it plays, and else its
-- prefill
abbrev pub wanted : Reader → ℕ
wanted reader = if reader.playing then reader.frame else reader.prefill

-- whether a reader holds fewer cells than it is to hold, so that it takes one more chunk from its buffer
abbrev pub wants : Reader → Bool
wants reader = nat_lt (length reader.cells) (wanted reader)

-- how many cells a reader lacks of those that it is to hold; each chunk that it takes lowers it
abbrev pub missing : Reader → ℕ
missing reader = wanted reader - length reader.cells

-- these cells, with the first one marked as the beginning of a track
abbrev pub flag_front : List Cell → List Cell
flag_front [] = []
flag_front (cell ∷ cells) = record { left = cell.left; right = cell.right; first = true; title = cell.title } ∷ cells

-- whether the list of cells is not empty
abbrev pub holds_some : List Cell → Bool
holds_some [] = false
holds_some (cell ∷ cells) = true

-- The reader of a buffer after it took chunks at the start of a tick. If it played, it plays on as long as it holds a
-- cell. If it did not, it begins to play once it holds its prefill, and its first cell begins a track.
abbrev pub begun : Reader → Reader
begun reader = from reader.playing
  where
    from : Bool → Reader
    from true = record reader { playing = holds_some reader.cells }
    from false =
        if nat_le reader.prefill (length reader.cells)
        then record reader { cells = flag_front reader.cells; playing = true }
        else reader

-- what the reader of a buffer has in its slot at an instant: the first of the cells that it holds, while it plays; else
-- nothing
abbrev pub reader_slot : Reader → Slot
reader_slot reader = if reader.playing then front reader.cells else None
  where
    front : List Cell → Slot
    front [] = None
    front (cell ∷ cells) = Some cell

-- the reader of a buffer after an instant: while it plays it gave the first of its cells, and else nothing changes
abbrev pub after_cell : Reader → Reader
after_cell reader = if reader.playing then record reader { cells = drop 1 reader.cells } else reader

-- the reader of a buffer after j instants at which it was to give a cell
abbrev pub read_by : ℕ → Reader → Reader
read_by zero reader = reader
read_by (suc j) reader = after_cell (read_by j reader)

-- The reader of a buffer after its takes at the start of a tick, of which these are the answers: a chunk, or None for
-- an empty buffer. It adds chunks while it holds too few cells, up to the first None.
abbrev pub after_takes : List Answer → Reader → Reader
after_takes [] reader = reader
after_takes (None ∷ answers) reader = reader
after_takes (Some chunk ∷ answers) reader =
    if wants reader then after_takes answers (record reader { cells = reader.cells ++ chunk }) else reader

-- The answers that a reader gets of its buffer at the start of a tick, of those to come. It takes while it holds too
-- few cells, and the first None, for an empty buffer, ends it.
abbrev pub reader_takes : List Answer → Reader → List Answer
reader_takes [] reader = if wants reader then None ∷ [] else []
reader_takes (None ∷ answers) reader = if wants reader then None ∷ [] else []
reader_takes (Some chunk ∷ answers) reader =
    if wants reader then Some chunk ∷ reader_takes answers (record reader { cells = reader.cells ++ chunk }) else []

-- The reader of a buffer at the start of a tick. It takes chunks, of which the answers are to come, and then plays on,
-- begins to play or stops. Where there are no more answers, the buffer is empty.
abbrev pub at_start : List Answer → Reader → Reader
at_start answers reader = begun (after_takes answers reader)
