use Rattle.std.proofs.Common.{◌<◌, false, length, arith}
use Rattle.std.proofs.lemmas.List.{get_or_default}
use Rattle.clock_nodes.proofs.Walking.{marked_first, marked_next, next_own}
use Rattle.clock_instants.proofs.roots.demand_roots.Goals as goal

pub loop-i-init : goal.loop-i-init
loop-i-init c =
    let first = c.first-i.ensures c.args.scene.now.clocks.now c.requires.chains in
    record { high = first.high; own = first.own; marked = marked_first _ _ _ _ _ first c.requires.none }

pub loop-i-smaller : goal.loop-i-smaller
loop-i-smaller c =
    let next = c.after-i.ensures c.args.scene.now.clocks.now c.requires.chains in
    let low = next.low in
    omega (arith, low, c.loop-i-test.true)

pub loop-i-preserved : goal.loop-i-preserved
loop-i-preserved c =
    let inside = c.loop-i.invariant.own c.loop-i-test.true in
    let next = next_own c.args.scene.now.clocks.now c.args.clock c.loop-i.i c.after-i.result inside (c.after-i.ensures c.args.scene.now.clocks.now c.requires.chains) in
    let in_demanded : c.loop-i.i < length c.loop-i.demanded = omega (arith, c.requires.in_demanded, c.loop-i-test.true) in
    let in_own : c.loop-i.i < length c.args.own.now = omega (arith, c.requires.in_own, c.loop-i-test.true) in
    record {
      high = next.high;
      own = next.own;
      marked = marked_next _ _ _ _ _ _ _ in_demanded inside (get_or_default _ _ _ false in_own) next c.loop-i.invariant.marked;
    }

pub returns-clause-roots : goal.returns-clause-roots
returns-clause-roots c j within = c.loop-i.invariant.marked.below j (omega (arith, within, c.loop-i-test.false))

pub returns-clause-others : goal.returns-clause-others
returns-clause-others c = c.loop-i.invariant.marked.other
