use Rattle.std.proofs.Common.{◌∙◌, slice_get, ap}
use Rattle.circular_buffer.specs.Buffer.{Buffer}
use Rattle.frame_core.specs.declared.cell.CellMark.{CellMark}
use Rattle.cell_ring.specs.MarkRuns.{mark_of}
use Rattle.cell_ring.proofs.MarkRuns.{first_of}
use Rattle.cell_ring.proofs.mark_ring.MarkRing.front.Goals as goal

pub returns : goal.returns
returns c =
    c.first_mark.ensures
    ∙ ap mark_of (c.copied.ensures ∙ c.front.ensures)
    ∙ first_of c.self.inside.runs.items c.self.invariant.0
    ∙ ap (λ (b : Buffer CellMark). slice_get b.items 0) c.self.view_is
