use Rattle.std.proofs.Common.{◌∙◌, drop, arith, ap}
use Rattle.cell_ring.specs.Rings.{Ring}
use Rattle.cell_ring.proofs.Queues.{gone_on}
use Rattle.cell_ring.proofs.chunk_queue.ChunkQueue.pop.Goals as goal

pub returns-then-left-gt0 : goal.returns-then-left-gt0
returns-then-left-gt0 c =
    ap (λ l. record { cells = l; room = c.self.inside.ring.room })
    (gone_on c.self.inside.ring.cells c.self.inside.spare c.self.inside.gone 0 1 1 (omega (arith, c.if-len-gt0.false, c.len.ensures.len)) (omega arith))
    ∙ ap (λ (r : Ring). record { cells = drop 1 r.cells; room = r.room }) c.self.view_is
