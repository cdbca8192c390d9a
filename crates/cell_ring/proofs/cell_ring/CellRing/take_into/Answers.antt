use Rattle.std.proofs.Common.{◌≤◌, ◌∙◌, ℤ, length, take, drop, map, ap, arith}
use Rattle.circular_buffer.specs.Buffer.{buffer}
use Rattle.frame_core.specs.declared.cell.Cell.{Cell}
use Rattle.cell_ring.specs.Rings.{Ring}
use Rattle.cell_ring.proofs.Lanes.{left_part, right_part}
use Rattle.cell_ring.proofs.Moves.{held, less_cells, read_all, read_rest}
use Rattle.cell_ring.proofs.cell_ring.CellRing.take_into.Goals as goal

pub returns-clause-left : goal.returns-clause-left
returns-clause-left c =
    let v = c.self.inside in
    let i = c.self.invariant in
    let f : Cell → ℤ = λ cell. cell.left in
    let long = held v.left v.right v.marks c.args.self.now i.0 i.1 c.self.view_is in
    let count = length c.args.left.now in
    read_all c.read_into.result v.left.items c.args.left.now c.read_into.new.dst c.read_into.ensures.count (omega (arith, c.requires.there, long, i.0)) c.read_into.ensures.read
    ∙ left_part count v.left.items v.right.items v.marks.items i.0 i.1
    ∙ ap (λ (r : Ring). map f (take count r.cells)) c.self.view_is

pub returns-clause-right : goal.returns-clause-right
returns-clause-right c =
    let v = c.self.inside in
    let i = c.self.invariant in
    let f : Cell → ℤ = λ cell. cell.right in
    let long = held v.left v.right v.marks c.args.self.now i.0 i.1 c.self.view_is in
    let count = length c.args.left.now in
    c.take_into.ensures.read
    ∙ ap (λ n. take n v.right.items) c.requires.same
    ∙ right_part count v.left.items v.right.items v.marks.items i.0 i.1
    ∙ ap (λ (r : Ring). map f (take count r.cells)) c.self.view_is

pub returns-clause-rest : goal.returns-clause-rest
returns-clause-rest c =
    let v = c.self.inside in
    let i = c.self.invariant in
    let long = held v.left v.right v.marks c.args.self.now i.0 i.1 c.self.view_is in
    let count = length c.args.left.now in
    let there : count ≤ length v.marks.items = omega (arith, c.requires.there, long) in
    less_cells v.left v.right c.read_into.new.self c.take_into.new.self v.marks c.drop_front.new.self count c.args.self.now i.0 i.1 c.self.view_is
    (read_rest c.read_into.result v.left c.read_into.new.self c.args.left.now count c.read_into.ensures.count (omega arith) (omega (arith, there, i.0)) c.read_into.ensures.items)
    (c.take_into.ensures.rest ∙ ap (λ n. buffer (drop n v.right.items) v.right.capacity) c.requires.same)
    c.drop_front.ensures

pub take_into-requires : goal.take_into-requires
take_into-requires c =
    let v = c.self.inside in
    let i = c.self.invariant in
    omega (arith, c.requires.there, c.requires.same, i.1, held v.left v.right v.marks c.args.self.now i.0 i.1 c.self.view_is)

pub overflow_cast-count : goal.overflow_cast-count
overflow_cast-count c =
    let v = c.self.inside in
    let i = c.self.invariant in
    omega (arith, c.requires.there, held v.left v.right v.marks c.args.self.now i.0 i.1 c.self.view_is, i.4, i.5)
