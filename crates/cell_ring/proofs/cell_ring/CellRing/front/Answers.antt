use Rattle.std.proofs.Common.{◌∙◌, slice_get, ap}
use Rattle.cell_ring.specs.Lanes.{slot_in}
use Rattle.cell_ring.specs.Rings.{Ring}
use Rattle.cell_ring.proofs.Lanes.{cell_there}
use Rattle.cell_ring.proofs.cell_ring.CellRing.front.Goals as goal

pub returns : goal.returns
returns c =
    let v = c.self.inside in
    let i = c.self.invariant in
    let left = slice_get v.left.items 0 in
    let right = slice_get v.right.items 0 in
    c.slot_in.ensures
    ∙ ap (λ o. slot_in o c.front-2.result c.front-3.result) (c.copied.ensures ∙ c.front.ensures)
    ∙ ap (λ o. slot_in left o c.front-3.result) c.front-2.ensures
    ∙ ap (λ o. slot_in left right o) c.front-3.ensures
    ∙ cell_there v.left.items v.right.items v.marks.items 0 i.0 i.1
    ∙ ap (λ (r : Ring). slice_get r.cells 0) c.self.view_is
