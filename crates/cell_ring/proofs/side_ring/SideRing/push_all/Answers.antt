use Rattle.std.proofs.Common.{◌∙◌, arith, sym}
use Rattle.cell_ring.proofs.Silence.{held_after, long_view, more_zeros, none_there}
use Rattle.cell_ring.proofs.side_ring.SideRing.push_all.Goals as goal

pub overflow_add-self : goal.overflow_add-self
overflow_add-self c =
    let v = c.self.inside in
    let long = long_view v.zeros v.held.items c.args.self.now v.held.capacity c.self.view_is in
    omega (arith, c.requires, long.0, long.1, c.len.ensures.within.1)

pub returns-then-are_silent : goal.returns-then-are_silent
returns-then-are_silent c =
    let v = c.self.inside in
    more_zeros v.zeros v.held.items c.args.samples.now c.args.self.now v.held.capacity (none_there v.held.items (sym c.len.ensures.len ∙ omega (arith, c.if-len-eq0.true)))
    (c.are_silent.ensures c.if-are_silent.true) c.self.view_is

pub returns : goal.returns
returns c =
    let v = c.self.inside in
    held_after v.zeros v.held.items c.args.samples.now c.args.self.now c.hold.new.held c.extend_from_slice.new.self v.held.capacity c.self.invariant.0 c.self.view_is
    c.requires c.hold.ensures c.extend_from_slice.ensures
