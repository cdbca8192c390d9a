use Rattle.std.proofs.Common.{◌∙◌, ℤ, false, length, ap, arith}
use Rattle.std.proofs.lemmas.List.{length-append}
use Rattle.circular_buffer.specs.Buffer.{Buffer}
use Rattle.frame_core.specs.declared.cell.CellMark.{CellMark}
use Rattle.cell_ring.specs.Rings.{Ring, inner_cells}
use Rattle.cell_ring.proofs.Lanes.{inner_in}
use Rattle.cell_ring.proofs.Moves.{held, lane_more, more_cells}
use Rattle.frame_core.specs.Chunks.{cells_in}
use Rattle.frame_core.specs.MarkRuns.{run_marks}
use Rattle.frame_core.proofs.MarkRuns.{inner_marks, length-run}
use Rattle.cell_ring.proofs.cell_ring.CellRing.push_inner.Goals as goal

pub push_all-requires : goal.push_all-requires
push_all-requires c =
    let v = c.self.inside in
    let i = c.self.invariant in
    omega (arith, c.requires.there, c.requires.same, i.1, i.3, held v.left v.right v.marks c.args.self.now i.0 i.1 c.self.view_is, ap (λ (r : Ring). r.room) c.self.view_is)

pub push-requires : goal.push-requires
push-requires c =
    let v = c.self.inside in
    let i = c.self.invariant in
    omega (arith, c.requires.there, held v.left v.right v.marks c.args.self.now i.0 i.1 c.self.view_is, ap (λ (r : Ring). r.room) c.self.view_is)

pub returns : goal.returns
returns c =
    let v = c.self.inside in
    let i = c.self.invariant in
    let lefts = c.args.left.now in
    let rights = c.args.right.now in
    let long = held v.left v.right v.marks c.args.self.now i.0 i.1 c.self.view_is in
    let room = ap (λ (r : Ring). r.room) c.self.view_is in
    more_cells v.left v.right c.extend_from_slice.new.self c.push_all.new.self v.marks c.push.new.self
    lefts rights (run_marks false c.args.title (length lefts)) (inner_cells c.args.title lefts rights)
    c.args.self.now i.0 i.1 c.self.view_is (ap (λ ms. cells_in lefts rights ms) (inner_marks c.args.title (length lefts)) ∙ inner_in c.args.title lefts rights c.requires.same)
    (lane_more v.left c.extend_from_slice.new.self lefts (omega (arith, c.requires.there, long, room, i.0, i.2)) c.extend_from_slice.ensures)
    c.push_all.ensures
    c.push.ensures

pub invariant_of-self : goal.invariant_of-self
invariant_of-self c =
    let v = c.self.inside in
    let i = c.self.invariant in
    let lefts = c.args.left.now in
    let rights = c.args.right.now in
    let marks = run_marks false c.args.title (length lefts) in
    let long = held v.left v.right v.marks c.args.self.now i.0 i.1 c.self.view_is in
    let room = ap (λ (r : Ring). r.room) c.self.view_is in
    let left = lane_more v.left c.extend_from_slice.new.self lefts (omega (arith, c.requires.there, long, room, i.0, i.2)) c.extend_from_slice.ensures in
    let right = c.push_all.ensures in
    let mark = c.push.ensures in
    let long_left = ap (λ (b : Buffer ℤ). length b.items) left in
    let long_right = ap (λ (b : Buffer ℤ). length b.items) right in
    let long_mark = ap (λ (b : Buffer CellMark). length b.items) mark in
    let more_left = length-append v.left.items lefts in
    let more_right = length-append v.right.items rights in
    let more_mark = length-append v.marks.items marks in
    let many = length-run false c.args.title (length lefts) in
    let room_left = ap (λ (b : Buffer ℤ). b.capacity) left in
    let room_right = ap (λ (b : Buffer ℤ). b.capacity) right in
    let room_mark = ap (λ (b : Buffer CellMark). b.capacity) mark in (
      omega (arith, long_left, long_mark, more_left, more_mark, many, i.0),
      omega (arith, long_right, long_mark, more_right, more_mark, many, i.1, c.requires.same),
      omega (arith, room_left, room_mark, i.2),
      omega (arith, room_right, room_mark, i.3),
      omega (arith, long_mark, more_mark, many, room_mark, c.requires.there, long, room),
      omega (arith, room_mark, i.5),
    )
