use Rattle.std.proofs.Common.{◌∙◌, ◌++◌, [], drop, ap, append-nil, arith}
use Rattle.frame_core.specs.Chunks.{cells_in}
use Rattle.frame_core.specs.MarkRuns.{marks_in}
use Rattle.cell_ring.specs.Rings.{Ring, spare_cells}
use Rattle.cell_ring.proofs.Queues.{chunk_lanes, held_cells}
use Rattle.cell_ring.proofs.chunk_queue.ChunkQueue.push.Goals.{in-None-2, in-Some-2}
use Rattle.cell_ring.proofs.chunk_queue.ChunkQueue.push.Goals as goal

pub returns-then-wanted-from : goal.returns-then-wanted-from
returns-then-wanted-from c =
    let marks = marks_in c.runs.result.now in
    let cells = cells_in c.left.result.now c.right.result.now marks in
    ap (λ (r : Ring). record { cells = r.cells ++ []; room = r.room }) c.push_cells-then-wanted-from.ensures
    ∙ ap (λ l. record { cells = l; room = c.push_cells.new.self.room }) (append-nil (c.push_cells.new.self.cells ++ cells))
    ∙ ap (λ (r : Ring). record { cells = r.cells ++ cells; room = r.room }) c.push_cells.ensures
    ∙ ap (λ l. record { cells = (c.self.inside.ring.cells ++ l) ++ cells; room = c.self.inside.ring.room }) c.spare_of-skip.ensures.cells
    ∙ ap (λ l. record { cells = (c.self.inside.ring.cells ++ spare_cells c.self.inside.spare c.self.inside.gone) ++ l; room = c.self.inside.ring.room })
    (chunk_lanes c.args.chunk c.left.result.now c.right.result.now marks c.left.ensures c.right.ensures c.runs.ensures)
    ∙ ap (λ (r : Ring). record { cells = r.cells ++ c.args.chunk; room = r.room }) c.self.view_is

pub returns-else-wanted-from : goal.returns-else-wanted-from
returns-else-wanted-from c = elim c.match-self-2.branch [
  | in-Some-2 w ↦
      w.self-is
      ∙ ap (λ (r : Ring). record { cells = r.cells ++ c.args.chunk; room = r.room }) c.push_cells.ensures
      ∙ ap (λ l. record { cells = (c.self.inside.ring.cells ++ l) ++ c.args.chunk; room = c.self.inside.ring.room }) c.spare_of-skip.ensures.cells
      ∙ ap (λ (r : Ring). record { cells = r.cells ++ c.args.chunk; room = r.room }) c.self.view_is
  | in-None-2 w ↦
      w.self-is
      ∙ ap (λ (r : Ring). record { cells = r.cells ++ c.args.chunk; room = r.room }) c.push_cells.ensures
      ∙ ap (λ l. record { cells = (c.self.inside.ring.cells ++ l) ++ c.args.chunk; room = c.self.inside.ring.room }) c.spare_of-skip.ensures.cells
      ∙ ap (λ (r : Ring). record { cells = r.cells ++ c.args.chunk; room = r.room }) c.self.view_is
]

pub push_cells-requires-clause-there : goal.push_cells-requires-clause-there
push_cells-requires-clause-there c =
    let q = c.self.inside in
    let parts = c.spare_of-skip.ensures in
    let held = held_cells q.ring.cells (spare_cells q.spare q.gone) c.args.self.now.cells c.spare_of-skip.result.0.now c.spare_of-skip.result.1.now (drop c.spare_of-skip.result.3 (marks_in c.spare_of-skip.result.2.now)) parts.same.0 parts.same.1 parts.cells
    (ap (λ (r : Ring). r.cells) c.self.view_is) in
    omega (arith, held, parts.same.0, c.requires, ap (λ (r : Ring). r.room) c.self.view_is)
