use Rattle.std.proofs.Common.{◌≡◌, ◌<◌, ◌∙◌, ◌+◌, suc, false, List, length, ap, subst, sym, arith, is_err}
use Rattle.liq_base.specs.Untold.{faults_alone}
use Rattle.trace_turns.specs.declared.course.Course.TheVariants.{Goes, Fails}
use Rattle.trace_turns.specs.Answering.{BufferState, same_buffers_refl, same_buffers_trans}
use Rattle.trace_turns.specs.Live.{HasFlown}
use Rattle.trace_turns.specs.Turns.{GoesOn}
use Rattle.trace_turns.proofs.Playing.{flows_fail, flows_on, on_ok}
use Rattle.trace_turns.specs.Timed.{timed}
use Rattle.trace_turns.proofs.onward.go_on.Goals as goal

pub loop-tick-init : goal.loop-tick-init
loop-tick-init c = record {
  behind = omega arith;
  course = c.requires.goes;
  changed = same_buffers_refl c.args.taps.now.buffers.items;
  goes = λ score may. record { full = may.full; fills = may.fills; unlost = may.unlost; run = may.may.run };
}

pub tick-requires-clause-runs : goal.tick-requires-clause-runs
tick-requires-clause-runs c = (c.loop-tick.invariant.goes c.requires.turn.0 c.requires.turn.1).run.engine.runs

pub tick-requires-clause-few : goal.tick-requires-clause-few
tick-requires-clause-few c =
    let made = (c.loop-tick.invariant.goes c.requires.turn.0 c.requires.turn.1).run.engine.made in
    let within = c.last_of-until.ensures.within in
    omega (arith, made, within, c.loop-tick-test.true, c.requires.few)

pub tick-requires-clause-buffers : goal.tick-requires-clause-buffers
tick-requires-clause-buffers c =
    let now = c.loop-tick.invariant.goes c.requires.turn.0 c.requires.turn.1 in
    sym now.fills.many ∙ now.run.of.many ∙ ap (λ s. length s.plan.buffers) (sym now.run.over)

pub loop-tick-preserved : goal.loop-tick-preserved
loop-tick-preserved c =
    let ok : is_err c.tick.result ≡ false = sym c.is_err.ensures.value ∙ c.if-is_err.false in
    let g : GoesOn c.args.window c.args.ticks c.loop-tick.tick c.tick.new.taps.course c.tick.new.taps.buffers.items c.args.ends.now Goes =
    subst (λ (l : List BufferState). GoesOn c.args.window c.args.ticks c.loop-tick.tick c.tick.new.taps.course l c.args.ends.now Goes) c.deref-in-loop-tick.ensures.value
    (subst (GoesOn c.args.window c.args.ticks c.loop-tick.tick c.tick.new.taps.course c.deref-in-loop-tick.result.now c.args.ends.now) c.in-Goes.is c.course_of.ensures) in
    let less : c.loop-tick.tick < c.args.ticks = (let t = c.loop-tick-test.true in let u = c.last_of-until.ensures.within in omega (arith, t, u)) in
    let next : suc c.loop-tick.tick ≡ c.loop-tick.tick + 1 = omega arith in
    record {
      behind = (let b = c.loop-tick.invariant.behind in omega (arith, b));
      course = g.0;
      changed = same_buffers_trans c.args.taps.now.buffers.items c.loop-tick.taps.buffers.items c.tick.new.taps.buffers.items c.loop-tick.invariant.changed c.tick.ensures.taps;
      goes = λ score may.
          subst (λ k. HasFlown score.base (timed score.text c.args.window c.args.ticks) c.args.engine.now.parts.clock k score.chunks c.tick.new.self.parts c.tick.new.taps.buffers.items) next
          (flows_on score c.args.window c.args.ticks c.args.engine.now.parts.clock c.args.ends.now may.full may.may.move
          (λ s. faults_alone 0) c.loop-tick.engine.outs c.tick.new.self.outs c.loop-tick.tick less c.requires.some c.loop-tick.engine.parts c.tick.new.self.parts c.loop-tick.taps c.tick.new.taps
          (c.loop-tick.invariant.goes score may) c.loop-tick.invariant.course c.tick.ensures.setting c.tick.ensures.clock (on_ok c.tick.result ok c.tick.ensures.ticked) c.tick.ensures.taps g.0 g.1);
    }

pub returns-in-Fails-clause-refused : goal.returns-in-Fails-clause-refused
returns-in-Fails-clause-refused c = λ score e may.
    let ok : is_err c.tick.result ≡ false = sym c.is_err.ensures.value ∙ c.if-is_err.false in
    let g : GoesOn c.args.window c.args.ticks c.loop-tick.tick c.tick.new.taps.course c.tick.new.taps.buffers.items c.args.ends.now Fails =
    subst (λ (l : List BufferState). GoesOn c.args.window c.args.ticks c.loop-tick.tick c.tick.new.taps.course l c.args.ends.now Fails) c.deref-in-loop-tick.ensures.value
    (subst (GoesOn c.args.window c.args.ticks c.loop-tick.tick c.tick.new.taps.course c.deref-in-loop-tick.result.now c.args.ends.now) c.in-Fails.is c.course_of.ensures) in
    let less : c.loop-tick.tick < c.args.ticks = (let t = c.loop-tick-test.true in let u = c.last_of-until.ensures.within in omega (arith, t, u)) in
    flows_fail score c.args.window c.args.ticks c.args.engine.now.parts.clock c.args.ends.now may.full may.may.move
    (λ s. faults_alone 0) c.loop-tick.engine.outs c.tick.new.self.outs c.loop-tick.tick less c.requires.some c.loop-tick.engine.parts c.tick.new.self.parts c.loop-tick.taps c.tick.new.taps
    (c.loop-tick.invariant.goes score may) c.loop-tick.invariant.course c.tick.ensures.setting c.tick.ensures.clock (on_ok c.tick.result ok c.tick.ensures.ticked) c.tick.ensures.taps g

pub returns-in-Waits-clause-same : goal.returns-in-Waits-clause-same
returns-in-Waits-clause-same c = same_buffers_trans c.args.taps.now.buffers.items c.loop-tick.taps.buffers.items c.tick.new.taps.buffers.items c.loop-tick.invariant.changed c.tick.ensures.taps

pub returns-in-Fails-clause-same : goal.returns-in-Fails-clause-same
returns-in-Fails-clause-same c = same_buffers_trans c.args.taps.now.buffers.items c.loop-tick.taps.buffers.items c.tick.new.taps.buffers.items c.loop-tick.invariant.changed c.tick.ensures.taps

pub returns-clause-made : goal.returns-clause-made
returns-clause-made c = λ n score e may.
    let here : c.last_of-until.result ≡ n = cc in
    let on = c.last_of-until.ensures.on in
    let full : c.loop-tick.tick ≡ c.last_of-until.result = omega (arith, on, c.loop-tick-test.false, c.loop-tick.auto.tick-end) in
    subst (λ k. HasFlown score.base (timed score.text c.args.window c.args.ticks) c.args.engine.now.parts.clock k score.chunks c.loop-tick.engine.parts c.loop-tick.taps.buffers.items) (full ∙ here) (c.loop-tick.invariant.goes score may)
