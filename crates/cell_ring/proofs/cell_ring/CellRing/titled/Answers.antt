use Rattle.std.proofs.Common.{◌+◌, ◌∙◌, slice_get, ap, sym}
use Rattle.cell_ring.specs.Rings.{has_title}
use Rattle.cell_ring.specs.Rings.{Ring}
use Rattle.cell_ring.proofs.Lanes.{title_there}
use Rattle.cell_ring.proofs.cell_ring.CellRing.titled.Goals as goal

pub returns-clause-titled : goal.returns-clause-titled
returns-clause-titled c = λ j lt.
    let v = c.self.inside in
    let i = c.self.invariant in
    ap (λ (r : Ring). has_title c.args.title (slice_get r.cells (c.args.from + j))) (sym c.self.view_is)
    ∙ title_there c.args.title v.left.items v.right.items v.marks.items (c.args.from + j) i.0 i.1
    ∙ c.titled.ensures.titled j lt

pub returns-clause-ends : goal.returns-clause-ends
returns-clause-ends c = λ lt.
    let v = c.self.inside in
    let i = c.self.invariant in
    ap (λ (r : Ring). has_title c.args.title (slice_get r.cells (c.args.from + c.titled.result))) (sym c.self.view_is)
    ∙ title_there c.args.title v.left.items v.right.items v.marks.items (c.args.from + c.titled.result) i.0 i.1
    ∙ c.titled.ensures.ends lt
