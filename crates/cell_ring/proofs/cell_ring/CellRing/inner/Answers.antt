use Rattle.std.proofs.Common.{◌+◌, ◌∙◌, slice_get, ap, sym}
use Rattle.frame_core.specs.Slots.{goes_on}
use Rattle.cell_ring.specs.Rings.{Ring}
use Rattle.cell_ring.proofs.Lanes.{inner_there}
use Rattle.cell_ring.proofs.cell_ring.CellRing.inner.Goals as goal

pub returns-clause-inner : goal.returns-clause-inner
returns-clause-inner c = λ j lt.
    let v = c.self.inside in
    let i = c.self.invariant in
    ap (λ (r : Ring). goes_on c.args.title (slice_get r.cells (c.args.from + j))) (sym c.self.view_is)
    ∙ inner_there c.args.title v.left.items v.right.items v.marks.items (c.args.from + j) i.0 i.1
    ∙ c.inner.ensures.inner j lt

pub returns-clause-ends : goal.returns-clause-ends
returns-clause-ends c = λ lt.
    let v = c.self.inside in
    let i = c.self.invariant in
    ap (λ (r : Ring). goes_on c.args.title (slice_get r.cells (c.args.from + c.inner.result))) (sym c.self.view_is)
    ∙ inner_there c.args.title v.left.items v.right.items v.marks.items (c.args.from + c.inner.result) i.0 i.1
    ∙ c.inner.ensures.ends lt
