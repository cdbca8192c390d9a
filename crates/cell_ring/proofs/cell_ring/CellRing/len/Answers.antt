use Rattle.std.proofs.Common.{arith}
use Rattle.cell_ring.proofs.Moves.{held}
use Rattle.cell_ring.proofs.cell_ring.CellRing.len.Goals as goal

pub returns-clause-len : goal.returns-clause-len
returns-clause-len c =
    let v = c.self.inside in
    let i = c.self.invariant in
    omega (arith, c.len.ensures.len, i.0, held v.left v.right v.marks c.args.self.now i.0 i.1 c.self.view_is)
