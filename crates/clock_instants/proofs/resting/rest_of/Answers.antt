use Rattle.std.proofs.Common.{◌≡◌, ◌<◌, ◌≤◌, ◌+◌, ◌∙◌, ◌∷◌, suc, Some, get_or, length, slice_get, arith, ap, sym, refl, subst}
use Rattle.std.specs.Prelude.{is_some}
use Rattle.std.proofs.lemmas.List.{get_or_default}
use Rattle.std.proofs.lemmas.Option.{slice_get_read}
use Rattle.frame_core.specs.Slots.{title_of}
use Rattle.stream_meaning.specs.declared.part.Part.{Part}
use Rattle.stream_meaning.specs.Instants.{crossfaded, moment_after, part_at, position, silent}
use Rattle.stretch_laws.specs.Stretches.{AreFilled}
use Rattle.node_states.specs.Passing.{asked, passes}
use Rattle.node_states.specs.Stretches.{LiesAhead}
use Rattle.node_states.specs.States.{StateStands}
use Rattle.op_cross.specs.Runs.{run_of}
use Rattle.clock_nodes.specs.Scenes.{setting_over}
use Rattle.clock_instants.proofs.Ahead.{ahead_all, ahead_none, ahead_skip, ahead_step, through_all, through_none, through_skip, through_step}
use Rattle.clock_instants.proofs.Asking.{asks_all, asks_none, asks_skip, asks_step}
use Rattle.clock_instants.proofs.Kept.{held_gives}
use Rattle.clock_instants.proofs.Stretched.{on_all, on_none, on_skip, on_step, tick_is}
use Rattle.clock_nodes.proofs.Walking.{next_own}
use Rattle.clock_instants.proofs.resting.rest_of.Goals as goal

pub loop-i-init : goal.loop-i-init
loop-i-init c =
    let first = c.first-i.ensures c.args.scene.now.clocks.now c.requires.chains in
    record {
      high = first.high;
      own = first.own;
      within = omega (arith, c.min-rest.ensures);
      later = omega (arith, c.min-rest.ensures);
      ahead = ahead_skip c.args.scene.now c.args.clock c.args.held.now c.args.states.now 0 c.first-i.result c.min-rest.result first
          (ahead_none c.args.scene.now c.args.clock c.args.held.now c.args.states.now c.min-rest.result);
      through = through_skip c.args.scene.now c.args.clock c.args.held.now c.args.states.now c.args.rests.now 0 c.first-i.result c.min-rest.result first
          (through_none c.args.scene.now c.args.clock c.args.held.now c.args.states.now c.args.rests.now c.min-rest.result);
      done = λ other sub past filled behind.
          on_skip (setting_over c.args.scene.now other) sub c.args.clock past 0 c.first-i.result c.min-rest.result first
          (on_none (setting_over c.args.scene.now other) sub c.args.clock past c.min-rest.result);
      asks = λ other sub past filled behind.
          asks_skip (setting_over c.args.scene.now other) sub c.args.clock past filled c.args.states.now 0 c.first-i.result c.min-rest.result first
          (asks_none (setting_over c.args.scene.now other) sub c.args.clock past filled c.args.states.now c.min-rest.result);
    }

pub loop-i-smaller : goal.loop-i-smaller
loop-i-smaller c =
    let next = c.after-i.ensures c.args.scene.now.clocks.now c.requires.chains in
    let low = next.low in
    omega (arith, low, c.loop-i-test.true)

pub loop-i-preserved : goal.loop-i-preserved
loop-i-preserved c =
    let in_nodes : c.loop-i.i < length c.args.scene.now.plan.now.nodes = omega (arith, c.requires.scene.in_clocks, c.loop-i-test.true) in
    let in_states : c.loop-i.i < length c.args.states.now = omega (arith, c.requires.fit.size, in_nodes) in
    let in_held : c.loop-i.i < length c.args.held.now = omega (arith, c.requires.in_held, in_nodes) in
    let in_rests : c.loop-i.i < length c.args.rests.now = omega (arith, c.requires.in_rests, in_nodes) in
    let inside = c.loop-i.invariant.own c.loop-i-test.true in
    let after = next_own c.args.scene.now.clocks.now c.args.clock c.loop-i.i c.after-i.result inside (c.after-i.ensures c.args.scene.now.clocks.now c.requires.chains) in
    let found : slice_get c.args.states.now c.loop-i.i ≡ Some c.index-states-i.result = slice_get_read _ _ _ _ refl in_states c.index-states-i.is in
    let w : c.node_rest-rest.result ≤ c.loop-i.rest = c.node_rest-rest.ensures.within in
    let held_is = ap (λ (p : Part). is_some p.slot) (get_or_default _ _ silent _ in_held) in
    let rest_is = get_or_default _ _ 0 _ in_rests in
    let title_is : title_of (part_at c.args.held.now (crossfaded c.args.scene.now.plan.now.nodes c.loop-i.i)).slot ≡ c.title_below-below_title.result =
    ap (λ ns. title_of (part_at c.args.held.now (crossfaded ns c.loop-i.i)).slot) (sym c.as_slice.ensures) ∙ sym c.title_below-below_title.ensures in
    record {
      high = after.high;
      own = after.own;
      within = omega (arith, w, c.loop-i.invariant.within);
      later = omega (arith, w, c.loop-i.invariant.later);
      ahead = ahead_skip c.args.scene.now c.args.clock c.args.held.now c.args.states.now (suc c.loop-i.i) c.after-i.result c.node_rest-rest.result after
          (ahead_step c.args.scene.now c.args.clock c.args.held.now c.args.states.now c.loop-i.i c.loop-i.rest c.node_rest-rest.result w
          (λ state at gave.
          let one : Some c.index-states-i.result ≡ Some state = sym found ∙ at in
          let same : c.index-states-i.result ≡ state = cc in
          subst (λ s. LiesAhead c.args.scene.now.library.now s c.node_rest-rest.result) same
          (c.node_rest-rest.ensures.ahead (sym held_is ∙ gave)))
          c.loop-i.invariant.ahead);
      through = through_skip c.args.scene.now c.args.clock c.args.held.now c.args.states.now c.args.rests.now (suc c.loop-i.i) c.after-i.result c.node_rest-rest.result after
          (through_step c.args.scene.now c.args.clock c.args.held.now c.args.states.now c.args.rests.now c.loop-i.i c.loop-i.rest c.node_rest-rest.result w
          (λ state at gave through.
          let one : Some c.index-states-i.result ≡ Some state = sym found ∙ at in
          let same : c.index-states-i.result ≡ state = cc in
          let l = c.node_rest-rest.ensures.through (sym held_is ∙ gave) (ap passes same ∙ through) in
          omega (arith, l, rest_is))
          c.loop-i.invariant.through);
      done = λ other sub past filled behind.
          let S = setting_over c.args.scene.now other in
          on_skip (setting_over c.args.scene.now other) sub c.args.clock past (suc c.loop-i.i) c.after-i.result c.node_rest-rest.result after
          (on_step (setting_over c.args.scene.now other) sub c.args.clock past c.loop-i.i c.loop-i.rest c.node_rest-rest.result w
          (λ node is.
          let gave_is = sym (held_gives S sub c.args.clock past c.args.held.now c.loop-i.i behind.held_are in_nodes is.inside) ∙ held_is in
          c.node_rest-rest.ensures.goes.goes other sub c.args.clock past (filled c.loop-i.i) node behind.long is
          (behind.stands.each c.loop-i.i node _ (record { there = is.there; inside = is.inside }) found)
          behind.parts_are gave_is
          (λ buffer at. behind.begun.each c.loop-i.i node buffer is at)
          (λ gave through. subst (λ n. AreFilled S sub c.loop-i.i (filled c.loop-i.i) n c.title_below-below_title.result) rest_is (subst (λ t. AreFilled S sub c.loop-i.i (filled c.loop-i.i) (get_or c.args.rests.now c.loop-i.i 0) t) title_is (behind.filled_on.each c.loop-i.i node _ is found (gave_is ∙ gave) through)))
          behind.time_is
          (tick_is (setting_over c.args.scene.now other) (length past) c.args.time c.tick_left-tick.result
          c.requires.frame (λ j. c.tick_left-tick.ensures other.start (length past) j behind.time_is)))
          (c.loop-i.invariant.done other sub past filled behind));
      asks = λ other sub past filled behind.
          let S = setting_over c.args.scene.now other in
          asks_skip (setting_over c.args.scene.now other) sub c.args.clock past filled c.args.states.now (suc c.loop-i.i) c.after-i.result c.node_rest-rest.result after
          (asks_step (setting_over c.args.scene.now other) sub c.args.clock past filled c.args.states.now c.loop-i.i c.loop-i.rest c.node_rest-rest.result w
          (λ overlap j node state is at there gave less.
          let one : Some c.index-states-i.result ≡ Some state = sym found ∙ there in
          let same : c.index-states-i.result ≡ state = cc in
          let gave_is = sym (held_gives S sub c.args.clock past c.args.held.now c.loop-i.i behind.held_are in_nodes is.inside) ∙ held_is in
          subst (λ s. run_of overlap (sub c.loop-i.i) (suc (position past c.loop-i.i) + j) ≡ filled c.loop-i.i + asked (passes s) j) same
          (c.node_rest-rest.ensures.goes.asks S sub past (moment_after S sub c.args.clock past) (filled c.loop-i.i) overlap j behind.long
          (subst (λ work. StateStands S sub (moment_after S sub c.args.clock past ∷ past) (filled c.loop-i.i) c.loop-i.i work c.index-states-i.result) at
          (behind.stands.each c.loop-i.i node _ (record { there = is.there; inside = is.inside }) found))
          gave_is (sym gave_is ∙ gave)
          (λ through. subst (λ n. AreFilled S sub c.loop-i.i (filled c.loop-i.i) n c.title_below-below_title.result) rest_is (subst (λ t. AreFilled S sub c.loop-i.i (filled c.loop-i.i) (get_or c.args.rests.now c.loop-i.i 0) t) title_is (behind.filled_on.each c.loop-i.i node _ is found gave through))) less))
          (c.loop-i.invariant.asks other sub past filled behind));
    }

pub returns-clause-ahead : goal.returns-clause-ahead
returns-clause-ahead c =
    let high = c.loop-i.invariant.high in
    let all : c.loop-i.i ≡ length c.args.scene.now.clocks.now = omega (arith, high, c.loop-i-test.false) in
    ahead_all c.args.scene.now c.args.clock c.args.held.now c.args.states.now c.loop-i.i c.loop-i.rest all c.loop-i.invariant.ahead

pub returns-clause-through : goal.returns-clause-through
returns-clause-through c =
    let high = c.loop-i.invariant.high in
    let all : c.loop-i.i ≡ length c.args.scene.now.clocks.now = omega (arith, high, c.loop-i-test.false) in
    through_all c.args.scene.now c.args.clock c.args.held.now c.args.states.now c.args.rests.now c.loop-i.i c.loop-i.rest all c.loop-i.invariant.through

pub returns-clause-goes : goal.returns-clause-goes
returns-clause-goes c =
    let high = c.loop-i.invariant.high in
    record {
      stretch = λ other sub past filled behind.
          on_all (setting_over c.args.scene.now other) sub c.args.clock past c.loop-i.i c.loop-i.rest
          (omega (arith, high, c.requires.scene.in_clocks, c.loop-i-test.false))
          (c.loop-i.invariant.done other sub past filled behind);
      asks = λ other sub past filled behind.
          asks_all (setting_over c.args.scene.now other) sub c.args.clock past filled c.args.states.now c.loop-i.i (length c.args.scene.now.clocks.now) c.loop-i.rest
          (omega (arith, high, c.loop-i-test.false))
          (c.loop-i.invariant.asks other sub past filled behind);
    }
