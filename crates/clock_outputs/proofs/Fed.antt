-- The cells of the slots that a feed takes.
use Rattle.std.proofs.Common.{◌≡◌, ◌∙◌, ◌++◌, ℕ, zero, suc, ℤ, false, Some, None, List, [], ◌∷◌, length, map, replicate, refl, ap, sym, append-nil, append_assoc}
use Rattle.cell_ring.specs.Rings.{inner_cells}
use Rattle.cell_ring.proofs.Lanes.{inner_in}
use Rattle.frame_core.specs.declared.cell.Cell.{Cell}
use Rattle.frame_core.specs.Chunks.{cells_in}
use Rattle.frame_core.specs.Frames.{Laid}
use Rattle.frame_core.specs.MarkRuns.{run_marks}
use Rattle.frame_core.specs.Slots.{Slot}
use Rattle.frame_core.proofs.MarkRuns.{inner_marks}
use Rattle.stream_meaning.specs.Arithmetic.{cells_of}
use Rattle.clock_outputs.specs.declared.feed.FeedPort.{FeedPort}
use Rattle.clock_outputs.specs.Feeds.{fed}

pub cells_of-append : (slots more : List Slot) → cells_of (slots ++ more) ≡ cells_of slots ++ cells_of more
cells_of-append [] more = refl
cells_of-append (None ∷ slots) more = cells_of-append slots more
cells_of-append (Some cell ∷ slots) more = ap (λ cells. cell ∷ cells) (cells_of-append slots more)

cells_of-all : (cells : List Cell) → cells_of (map Some cells) ≡ cells
cells_of-all [] = refl
cells_of-all (cell ∷ cells) = ap (λ cs. cell ∷ cs) (cells_of-all cells)

cells_of-none : (n : ℕ) → cells_of (replicate n None) ≡ []
cells_of-none zero = refl
cells_of-none (suc n) = cells_of-none n

-- a feed with other cells
abbrev with_frame : FeedPort → Laid → FeedPort
with_frame feed frame = record { buffer = feed.buffer; node = feed.node; frame = frame }

abbrev laid_as : List Cell → ℕ → Laid
laid_as cells room = record { cells = cells; room = room }

-- no cell comes
pub fed_none : (feed : FeedPort) (n : ℕ) → feed ≡ fed feed (replicate n None)
fed_none feed n = ap (λ cells. with_frame feed (laid_as cells feed.frame.room)) (sym (append-nil feed.frame.cells) ∙ ap (λ cells. feed.frame.cells ++ cells) (sym (cells_of-none n)))

-- a cell comes, and behind it others of its title
pub fed_cells : (feed : FeedPort) (cell : Cell) (lefts rights : List ℤ) (one both : Laid) → length rights ≡ length lefts
    → one ≡ laid_as (feed.frame.cells ++ cell ∷ []) feed.frame.room
    → both ≡ laid_as (one.cells ++ cells_in lefts rights (run_marks false cell.title (length lefts))) one.room
    → with_frame feed both ≡ fed feed (Some cell ∷ map Some (inner_cells cell.title lefts rights))
fed_cells feed cell lefts rights one both same first rest =
    let inner : cells_in lefts rights (run_marks false cell.title (length lefts)) ≡ inner_cells cell.title lefts rights =
    ap (λ ms. cells_in lefts rights ms) (inner_marks cell.title (length lefts)) ∙ inner_in cell.title lefts rights same in
    ap (with_frame feed) rest
    ∙ ap (λ cells. with_frame feed (laid_as (one.cells ++ cells) one.room)) inner
    ∙ ap (λ (frame : Laid). with_frame feed (laid_as (frame.cells ++ inner_cells cell.title lefts rights) frame.room)) first
    ∙ ap (λ cells. with_frame feed (laid_as cells feed.frame.room))
    (append_assoc feed.frame.cells (cell ∷ []) (inner_cells cell.title lefts rights)
    ∙ ap (λ cells. feed.frame.cells ++ cell ∷ cells) (sym (cells_of-all (inner_cells cell.title lefts rights))))
