use Rattle.std.proofs.Common.{◌∙◌, ap, map, sym}
use Rattle.frame_core.specs.Chunks.{mark_in}
use Rattle.frame_core.specs.MarkRuns.{marks_in}
use Rattle.frame_core.proofs.Chunks.{marks_of_cells}
use Rattle.frame_core.proofs.block.Block.runs.Goals as goal

pub returns : goal.returns
returns c =
    let v = c.self.inside in
    let i = c.self.invariant in
    ap marks_in c.as_slice.ensures.value ∙ sym (marks_of_cells v.left.items v.right.items (marks_in v.runs.items) i.0 i.1) ∙ ap (map mark_in) c.self.view_is
