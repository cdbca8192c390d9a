use Rattle.std.proofs.Common.{◌<◌, suc, false, length, get_or, arith, refl}
use Rattle.std.proofs.lemmas.List.{get_or_default}
use Rattle.stream_meaning.specs.Instants.{part_at, silent}
use Rattle.clock_instants.specs.Held.{given_by}
use Rattle.clock_instants.proofs.Kept.{given_same, laid_none, laid_skip, laid_step}
use Rattle.clock_nodes.proofs.Walking.{next_own}
use Rattle.clock_instants.proofs.holding.hold.Goals as goal

pub loop-i-init : goal.loop-i-init
loop-i-init c =
    let first = c.first-i.ensures c.args.scene.now.clocks.now c.requires.chains in
    record {
      high = first.high;
      own = first.own;
      laid = laid_skip c.args.scene.now.clocks.now c.args.clock (λ k. given_by (get_or c.args.demanded.now k false) (part_at c.args.parts.now k)) (λ k. part_at c.args.held.now k) c.args.held.now 0 c.first-i.result first
          (laid_none c.args.scene.now.clocks.now c.args.clock (λ k. given_by (get_or c.args.demanded.now k false) (part_at c.args.parts.now k)) (λ k. part_at c.args.held.now k) c.args.held.now (λ k outside. refl));
    }

pub loop-i-smaller : goal.loop-i-smaller
loop-i-smaller c =
    let next = c.after-i.ensures c.args.scene.now.clocks.now c.requires.chains in
    let low = next.low in
    omega (arith, low, c.loop-i-test.true)

pub loop-i-preserved : goal.loop-i-preserved
loop-i-preserved c =
    let in_parts : c.loop-i.i < length c.args.parts.now = omega (arith, c.requires.in_parts, c.loop-i-test.true) in
    let in_demanded : c.loop-i.i < length c.args.demanded.now = omega (arith, c.requires.in_demanded, c.loop-i-test.true) in
    let in_held : c.loop-i.i < length c.loop-i.held = omega (arith, c.requires.in_held, c.loop-i-test.true) in
    let inside = c.loop-i.invariant.own c.loop-i-test.true in
    let after = next_own c.args.scene.now.clocks.now c.args.clock c.loop-i.i c.after-i.result inside (c.after-i.ensures c.args.scene.now.clocks.now c.requires.chains) in
    record {
      high = after.high;
      own = after.own;
      laid = laid_skip c.args.scene.now.clocks.now c.args.clock (λ k. given_by (get_or c.args.demanded.now k false) (part_at c.args.parts.now k)) (λ k. part_at c.args.held.now k) _ (suc c.loop-i.i) c.after-i.result after
          (laid_step c.args.scene.now.clocks.now c.args.clock (λ k. given_by (get_or c.args.demanded.now k false) (part_at c.args.parts.now k)) (λ k. part_at c.args.held.now k) c.loop-i.held c.loop-i.i c.given.result in_held inside
          (given_same _ _ _ _ _ c.given.ensures (get_or_default _ _ false _ in_demanded) (get_or_default _ _ silent _ in_parts)) c.loop-i.invariant.laid);
    }

pub returns-clause-given : goal.returns-clause-given
returns-clause-given c = λ i low inside. c.loop-i.invariant.laid.below i (omega (arith, low, c.loop-i-test.false)) inside

pub returns-clause-kept : goal.returns-clause-kept
returns-clause-kept c = λ i outside. c.loop-i.invariant.laid.outside i outside
