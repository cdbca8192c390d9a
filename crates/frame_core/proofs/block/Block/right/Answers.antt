use Rattle.std.proofs.Common.{◌∙◌, ap, map, sym}
use Rattle.frame_core.specs.declared.cell.Cell.{Cell}
use Rattle.frame_core.specs.MarkRuns.{marks_in}
use Rattle.frame_core.proofs.Chunks.{rights_of}
use Rattle.frame_core.proofs.block.Block.right.Goals as goal

pub returns : goal.returns
returns c =
    let v = c.self.inside in
    let i = c.self.invariant in
    c.as_slice.ensures.value ∙ sym (rights_of v.left.items v.right.items (marks_in v.runs.items) i.0 i.1) ∙ ap (map (λ (cell : Cell). cell.right)) c.self.view_is
