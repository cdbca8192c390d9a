use Rattle.std.proofs.Common.{ℤ, length, drop, ap, arith, refl}
use Rattle.std.proofs.lemmas.List.{length-append}
use Rattle.circular_buffer.specs.Buffer.{Buffer}
use Rattle.frame_core.specs.declared.cell.CellMark.{CellMark}
use Rattle.frame_core.specs.Chunks.{cells_in}
use Rattle.frame_core.specs.MarkRuns.{marks_in}
use Rattle.cell_ring.specs.Rings.{Ring}
use Rattle.cell_ring.proofs.Moves.{held, lane_more, more_cells}
use Rattle.cell_ring.proofs.cell_ring.CellRing.push_cells.Goals as goal

pub push_all-requires : goal.push_all-requires
push_all-requires c =
    let v = c.self.inside in
    let i = c.self.invariant in
    omega (arith, c.requires.there, c.requires.same.0, c.requires.same.1, i.1, i.3, held v.left v.right v.marks c.args.self.now i.0 i.1 c.self.view_is, ap (λ (r : Ring). r.room) c.self.view_is)

pub push_all-requires-2 : goal.push_all-requires-2
push_all-requires-2 c =
    let v = c.self.inside in
    let i = c.self.invariant in
    omega (arith, c.requires.there, c.requires.same.0, held v.left v.right v.marks c.args.self.now i.0 i.1 c.self.view_is, ap (λ (r : Ring). r.room) c.self.view_is)

pub returns : goal.returns
returns c =
    let v = c.self.inside in
    let i = c.self.invariant in
    let lefts = c.args.left.now in
    let rights = c.args.right.now in
    let marks = drop c.args.skip (marks_in c.args.runs.now) in
    let long = held v.left v.right v.marks c.args.self.now i.0 i.1 c.self.view_is in
    let room = ap (λ (r : Ring). r.room) c.self.view_is in
    more_cells v.left v.right c.extend_from_slice.new.self c.push_all.new.self v.marks c.push_all-2.new.self
    lefts rights marks (cells_in lefts rights marks) c.args.self.now i.0 i.1 c.self.view_is refl
    (lane_more v.left c.extend_from_slice.new.self lefts (omega (arith, c.requires.there, c.requires.same.0, long, room, i.0, i.2)) c.extend_from_slice.ensures)
    c.push_all.ensures
    c.push_all-2.ensures

pub invariant_of-self : goal.invariant_of-self
invariant_of-self c =
    let v = c.self.inside in
    let i = c.self.invariant in
    let lefts = c.args.left.now in
    let rights = c.args.right.now in
    let marks = drop c.args.skip (marks_in c.args.runs.now) in
    let long = held v.left v.right v.marks c.args.self.now i.0 i.1 c.self.view_is in
    let room = ap (λ (r : Ring). r.room) c.self.view_is in
    let left = lane_more v.left c.extend_from_slice.new.self lefts (omega (arith, c.requires.there, c.requires.same.0, long, room, i.0, i.2)) c.extend_from_slice.ensures in
    let right = c.push_all.ensures in
    let mark = c.push_all-2.ensures in
    let long_left = ap (λ (b : Buffer ℤ). length b.items) left in
    let long_right = ap (λ (b : Buffer ℤ). length b.items) right in
    let long_mark = ap (λ (b : Buffer CellMark). length b.items) mark in
    let more_left = length-append v.left.items lefts in
    let more_right = length-append v.right.items rights in
    let more_mark = length-append v.marks.items marks in
    let room_left = ap (λ (b : Buffer ℤ). b.capacity) left in
    let room_right = ap (λ (b : Buffer ℤ). b.capacity) right in
    let room_mark = ap (λ (b : Buffer CellMark). b.capacity) mark in (
      omega (arith, long_left, long_mark, more_left, more_mark, i.0, c.requires.same.0),
      omega (arith, long_right, long_mark, more_right, more_mark, i.1, c.requires.same.1),
      omega (arith, room_left, room_mark, i.2),
      omega (arith, room_right, room_mark, i.3),
      omega (arith, long_mark, more_mark, room_mark, c.requires.there, c.requires.same.0, long, room),
      omega (arith, room_mark, i.5),
    )
