use Rattle.cell_ring.proofs.Moves.{less_cells}
use Rattle.cell_ring.proofs.cell_ring.CellRing.pop.Goals as goal

pub returns : goal.returns
returns c =
    let v = c.self.inside in
    let i = c.self.invariant in
    less_cells v.left v.right c.pop_front.new.self c.pop.new.self v.marks c.drop_front.new.self 1 c.args.self.now i.0 i.1 c.self.view_is
    c.pop_front.ensures.items c.pop.ensures c.drop_front.ensures
