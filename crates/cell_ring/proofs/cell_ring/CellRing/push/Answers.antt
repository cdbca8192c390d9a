use Rattle.std.proofs.Common.{◌∙◌, ◌∷◌, [], ℤ, List, length, to_z, of_z, w16, FitsSigned, ap, arith, rules}
use Rattle.std.proofs.lemmas.Int.{to_z-of_z}
use Rattle.std.proofs.lemmas.List.{length-append}
use Rattle.circular_buffer.specs.Buffer.{Buffer}
use Rattle.frame_core.specs.declared.cell.CellMark.{CellMark}
use Rattle.cell_ring.specs.Rings.{Ring}
use Rattle.cell_ring.proofs.Moves.{held, lane_more, more_cells}
use Rattle.cell_ring.proofs.cell_ring.CellRing.push.Goals as goal

pub returns : goal.returns
returns c =
    let v = c.self.inside in
    let i = c.self.invariant in
    let cell = c.args.cell in
    let fits_left : FitsSigned w16 cell.left = search rules in
    let fits_right : FitsSigned w16 cell.right = search rules in
    let left = to_z w16 (of_z w16 cell.left) in
    let right = to_z w16 (of_z w16 cell.right) in
    let long = held v.left v.right v.marks c.args.self.now i.0 i.1 c.self.view_is in
    let room = ap (λ (r : Ring). r.room) c.self.view_is in
    more_cells v.left v.right c.push_back.new.self c.push_all.new.self v.marks c.push.new.self (left ∷ []) (right ∷ []) (record { first = cell.first; title = cell.title } ∷ []) (cell ∷ [])
    c.args.self.now i.0 i.1 c.self.view_is
    (ap (λ x. record { left = x; right = right; first = cell.first; title = cell.title } ∷ []) (to_z-of_z w16 cell.left fits_left)
    ∙ ap (λ y. record { left = cell.left; right = y; first = cell.first; title = cell.title } ∷ []) (to_z-of_z w16 cell.right fits_right))
    (lane_more v.left c.push_back.new.self (left ∷ []) (omega (arith, c.requires, long, room, i.0, i.2)) c.push_back.ensures.items)
    c.push_all.ensures
    c.push.ensures

pub push_all-requires : goal.push_all-requires
push_all-requires c =
    let v = c.self.inside in
    let i = c.self.invariant in
    omega (arith, c.requires, i.1, i.3, held v.left v.right v.marks c.args.self.now i.0 i.1 c.self.view_is, ap (λ (r : Ring). r.room) c.self.view_is)

pub push-requires : goal.push-requires
push-requires c =
    let v = c.self.inside in
    let i = c.self.invariant in
    omega (arith, c.requires, held v.left v.right v.marks c.args.self.now i.0 i.1 c.self.view_is, ap (λ (r : Ring). r.room) c.self.view_is)

pub invariant_of-self : goal.invariant_of-self
invariant_of-self c =
    let v = c.self.inside in
    let i = c.self.invariant in
    let cell = c.args.cell in
    let lefts = to_z w16 (of_z w16 cell.left) ∷ [] in
    let rights = to_z w16 (of_z w16 cell.right) ∷ [] in
    let marks : List CellMark = record { first = cell.first; title = cell.title } ∷ [] in
    let long = held v.left v.right v.marks c.args.self.now i.0 i.1 c.self.view_is in
    let room = ap (λ (r : Ring). r.room) c.self.view_is in
    let left = lane_more v.left c.push_back.new.self lefts (omega (arith, c.requires, long, room, i.0, i.2)) c.push_back.ensures.items in
    let right = c.push_all.ensures in
    let mark = c.push.ensures in
    let long_left = ap (λ (b : Buffer ℤ). length b.items) left in
    let long_right = ap (λ (b : Buffer ℤ). length b.items) right in
    let long_mark = ap (λ (b : Buffer CellMark). length b.items) mark in
    let more_left = length-append v.left.items lefts in
    let more_right = length-append v.right.items rights in
    let more_mark = length-append v.marks.items marks in
    let room_left = ap (λ (b : Buffer ℤ). b.capacity) left in
    let room_right = ap (λ (b : Buffer ℤ). b.capacity) right in
    let room_mark = ap (λ (b : Buffer CellMark). b.capacity) mark in (
      omega (arith, long_left, long_mark, more_left, more_mark, i.0),
      omega (arith, long_right, long_mark, more_right, more_mark, i.1),
      omega (arith, room_left, room_mark, i.2),
      omega (arith, room_right, room_mark, i.3),
      omega (arith, long_mark, more_mark, room_mark, c.requires, long, room),
      omega (arith, room_mark, i.5),
    )
