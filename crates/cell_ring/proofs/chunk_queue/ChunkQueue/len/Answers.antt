use Rattle.std.proofs.Common.{ap, drop, arith}
use Rattle.frame_core.specs.MarkRuns.{marks_in}
use Rattle.cell_ring.specs.Rings.{Ring, spare_cells}
use Rattle.cell_ring.proofs.Queues.{held_cells}
use Rattle.cell_ring.proofs.chunk_queue.ChunkQueue.len.Goals as goal

pub returns : goal.returns
returns c =
    let q = c.self.inside in
    let parts = c.spare_of.ensures in
    let held = held_cells q.ring.cells (spare_cells q.spare q.gone) c.args.self.now.cells c.spare_of.result.0.now c.spare_of.result.1.now (drop c.spare_of.result.3 (marks_in c.spare_of.result.2.now)) parts.same.0 parts.same.1 parts.cells
    (ap (λ (r : Ring). r.cells) c.self.view_is) in
    omega (arith, held, parts.same.0, c.from.ensures, c.len.ensures.len)
