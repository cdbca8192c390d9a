use Rattle.std.proofs.Common.{arith}
use Rattle.frame_core.specs.MarkRuns.{marks_in}
use Rattle.cell_ring.proofs.Queues.{spare_lanes}
use Rattle.cell_ring.proofs.chunk_queue.spare_of.Goals as goal

pub returns-clause-cells : goal.returns-clause-cells
returns-clause-cells c =
    spare_lanes _ _ c.left.result.now c.right.result.now (marks_in c.runs.result.now) c.args.gone c.min-first.result (omega (arith, c.min-first.ensures, c.len.ensures.count))
    c.left.ensures c.right.ensures c.runs.ensures c.in-Some.is
