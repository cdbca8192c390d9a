use Rattle.std.proofs.Common.{length, ap, arith}
use Rattle.frame_core.specs.MarkRuns.{marks_in}
use Rattle.frame_core.proofs.Chunks.{length-cells}
use Rattle.frame_core.proofs.block.Block.len.Goals as goal

pub returns-clause-count : goal.returns-clause-count
returns-clause-count c =
    let v = c.self.inside in
    let i = c.self.invariant in
    omega (arith, length-cells v.left.items v.right.items (marks_in v.runs.items) i.0 i.1, ap length c.self.view_is)
