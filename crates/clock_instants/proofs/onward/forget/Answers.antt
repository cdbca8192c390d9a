use Rattle.std.proofs.Common.{◌<◌, length, arith}
use Rattle.clock_nodes.proofs.Walking.{cleared_all, cleared_first, cleared_next, next_own}
use Rattle.clock_instants.proofs.onward.forget.Goals as goal

pub loop-i-init : goal.loop-i-init
loop-i-init c =
    let first = c.first-i.ensures c.args.scene.now.clocks.now c.requires.chains in
    record {
      high = first.high;
      own = first.own;
      parts = cleared_first _ _ _ _ _ first c.requires.outside;
    }

pub loop-i-smaller : goal.loop-i-smaller
loop-i-smaller c =
    let next = c.after-i.ensures c.args.scene.now.clocks.now c.requires.chains in
    let low = next.low in
    omega (arith, low, c.loop-i-test.true)

pub loop-i-preserved : goal.loop-i-preserved
loop-i-preserved c =
    let inside = c.loop-i.invariant.own c.loop-i-test.true in
    let next = next_own c.args.scene.now.clocks.now c.args.clock c.loop-i.i c.after-i.result inside (c.after-i.ensures c.args.scene.now.clocks.now c.requires.chains) in
    let in_parts : c.loop-i.i < length c.loop-i.parts = omega (arith, c.requires.in_parts, c.loop-i-test.true) in
    record {
      high = next.high;
      own = next.own;
      parts = cleared_next _ _ _ _ _ _ in_parts next c.loop-i.invariant.parts;
    }

pub returns : goal.returns
returns c = cleared_all _ _ _ _ _ (omega (arith, c.requires.in_parts, c.loop-i-test.false)) c.loop-i.invariant.parts
