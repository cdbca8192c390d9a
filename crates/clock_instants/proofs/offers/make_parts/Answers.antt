use Rattle.std.proofs.Common.{◌≡◌, ◌<◌, ◌∙◌, suc, Some, length, set, slice_get, arith, ap, refl, sym}
use Rattle.std.proofs.lemmas.List.{get_or-set_other, take_all}
use Rattle.std.proofs.lemmas.Option.{slice_get_read}
use Rattle.std.proofs.Math.ListN.{length-set}
use Rattle.stream_meaning.specs.Instants.{parts_upto, silent}
use Rattle.clock_nodes.specs.Scenes.{setting_over}
use Rattle.clock_nodes.proofs.Parts.{parts_step}
use Rattle.clock_nodes.proofs.Walking.{next_own, not_here, parts_to}
use Rattle.clock_instants.proofs.offers.make_parts.Goals as goal

pub loop-i-init : goal.loop-i-init
loop-i-init c =
    let first = c.first-i.ensures c.args.scene.now.clocks.now c.requires.chains in
    record {
      high = first.high;
      own = first.own;
      room = refl;
      others = λ j outside. c.requires.none j;
      made = λ other sub past filled at long stands settled.
          parts_to (setting_over c.args.scene.now other) sub c.args.clock past c.args.parts.now 0 c.first-i.result
          (c.requires.in_parts ∙ sym c.requires.scene.in_clocks) first (λ j outside. c.requires.none j) refl;
    }

pub loop-i-smaller : goal.loop-i-smaller
loop-i-smaller c =
    let next = c.after-i.ensures c.args.scene.now.clocks.now c.requires.chains in
    let low = next.low in
    omega (arith, low, c.loop-i-test.true)

pub loop-i-preserved : goal.loop-i-preserved
loop-i-preserved c =
    let inside = c.loop-i.invariant.own c.loop-i-test.true in
    let next = next_own c.args.scene.now.clocks.now c.args.clock c.loop-i.i c.after-i.result inside (c.after-i.ensures c.args.scene.now.clocks.now c.requires.chains) in
    let in_parts : c.loop-i.i < length c.loop-i.parts = omega (arith, c.requires.in_parts, c.requires.scene.in_clocks, c.loop-i-test.true) in
    let in_states : c.loop-i.i < length c.args.states.now = omega (arith, c.requires.fit.size, c.requires.scene.in_clocks, c.loop-i-test.true) in
    let found : slice_get c.args.states.now c.loop-i.i ≡ Some c.index-states-i.result = slice_get_read _ _ _ _ refl in_states c.index-states-i.is in
    let many : length (set c.loop-i.parts c.loop-i.i c.offer_of.result) ≡ length c.args.scene.now.clocks.now =
    (let same = length-set c.loop-i.parts c.loop-i.i c.offer_of.result in omega (arith, same, c.requires.in_parts, c.requires.scene.in_clocks)) in
    record {
      high = next.high;
      own = next.own;
      room = c.offer_of.ensures.room ∙ c.loop-i.invariant.room;
      others = λ j outside. get_or-set_other c.loop-i.parts c.loop-i.i j c.offer_of.result silent (not_here c.args.scene.now.clocks.now c.args.clock c.loop-i.i j inside outside) ∙ c.loop-i.invariant.others j outside;
      made = λ other sub past filled at long stands settled.
          parts_to (setting_over c.args.scene.now other) sub c.args.clock past (set c.loop-i.parts c.loop-i.i c.offer_of.result) (suc c.loop-i.i) c.after-i.result many next
          (λ j outside. get_or-set_other c.loop-i.parts c.loop-i.i j c.offer_of.result silent (not_here c.args.scene.now.clocks.now c.args.clock c.loop-i.i j inside outside) ∙ c.loop-i.invariant.others j outside)
          (parts_step (setting_over c.args.scene.now other) sub c.args.clock past c.loop-i.parts c.loop-i.i c.offer_of.result in_parts
          (c.loop-i.invariant.made other sub past filled at long stands settled)
          (c.offer_of.ensures.part other sub c.args.clock past (filled c.loop-i.i) at long inside
          (λ node is. stands.each c.loop-i.i node c.index-states-i.result is found)
          (λ node is. settled.each c.loop-i.i node is)));
    }

pub returns-clause-parts : goal.returns-clause-parts
returns-clause-parts c setting sub past filled at long stands settled =
    let all : c.loop-i.i ≡ length c.args.scene.now.plan.now.nodes = (let high = c.loop-i.invariant.high in omega (arith, high, c.requires.scene.in_clocks, c.loop-i-test.false)) in
    sym (take_all c.loop-i.i c.loop-i.parts (omega (arith, all, c.requires.in_parts)))
    ∙ c.loop-i.invariant.made setting sub past filled at long stands settled
    ∙ ap (λ n. parts_upto (setting_over c.args.scene.now setting) sub c.args.clock past n) all
