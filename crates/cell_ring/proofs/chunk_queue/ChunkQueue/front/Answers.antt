use Rattle.std.proofs.Common.{◌∙◌, drop, slice_get, arith, ap, sym}
use Rattle.circular_buffer.proofs.Places.{slice_get-append_right, slice_get-drop}
use Rattle.frame_core.specs.MarkRuns.{marks_in}
use Rattle.cell_ring.specs.Lanes.{slot_in}
use Rattle.cell_ring.specs.Rings.{Ring, spare_cells}
use Rattle.cell_ring.proofs.Lanes.{cell_there}
use Rattle.cell_ring.proofs.chunk_queue.ChunkQueue.front.Goals as goal

pub returns : goal.returns
returns c =
    let q = c.self.inside in
    let parts = c.spare_of-skip.ensures in
    let lefts = c.spare_of-skip.result.0.now in
    let rights = c.spare_of-skip.result.1.now in
    let skip = c.spare_of-skip.result.3 in
    let whole = marks_in c.spare_of-skip.result.2.now in
    let marks = drop skip whole in
    let left = slice_get lefts 0 in
    let right = slice_get rights 0 in
    c.slot_in.ensures
    ∙ ap (λ o. slot_in o c.copied-2.result c.mark_at.result) (c.copied.ensures ∙ c.first.ensures.value)
    ∙ ap (λ o. slot_in left o c.mark_at.result) (c.copied-2.ensures ∙ c.first-2.ensures.value)
    ∙ ap (λ o. slot_in left right o) (c.mark_at.ensures ∙ sym (slice_get-drop skip whole 0 skip (omega arith)))
    ∙ cell_there lefts rights marks 0 parts.same.0 parts.same.1
    ∙ ap (λ l. slice_get l 0) parts.cells
    ∙ sym (slice_get-append_right q.ring.cells (spare_cells q.spare q.gone) 0 0 (omega (arith, c.if-len-gt0.false, c.len.ensures.len)))
    ∙ ap (λ (r : Ring). slice_get r.cells 0) c.self.view_is
