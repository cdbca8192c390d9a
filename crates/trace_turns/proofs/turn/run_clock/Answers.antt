use Rattle.std.proofs.Common.{◌≡◌, ◌∙◌, ◌+◌, ℕ, suc, false, List, subst, sym, arith, is_err}
use Rattle.liq_base.specs.Untold.{faults_alone}
use Rattle.trace_turns.specs.declared.course.Course.TheVariants.{Goes, Waits, Fails}
use Rattle.trace_turns.specs.Answering.{BufferState, same_buffers_refl, same_buffers_trans}
use Rattle.trace_records.specs.Passes.{HasTurned}
use Rattle.trace_turns.specs.Turns.{GoesOn, RunsAt, chunks_of}
use Rattle.trace_turns.proofs.Playing.{all_made, begins, fails, goes_on, moves, on_ok, waits}
use Rattle.trace_turns.proofs.Thinning.{kept_same}
use Rattle.trace_turns.proofs.turn.run_clock.Goals as goal

same_number : (m n : ℕ) (f : ℕ → Type 0) → m ≡ n → f m → f n
same_number m n f e x = subst f e x

pub loop-tick-init : goal.loop-tick-init
loop-tick-init c = record {
  course = c.requires.goes;
  kept = c.requires.kept;
  changed = same_buffers_refl c.args.taps.now.buffers.items;
  goes = λ score may. begins score c.args.window c.args.ticks c.args.engine.now.parts.clock c.args.ends.now c.args.engine.now.parts c.args.taps.now.buffers.items may;
}

pub loop-tick-preserved : goal.loop-tick-preserved
loop-tick-preserved c =
    let ok : is_err c.tick.result ≡ false = sym c.is_err.ensures.value ∙ c.if-is_err.false in
    let g : GoesOn c.args.window c.args.ticks c.loop-tick.tick c.tick.new.taps.course c.tick.new.taps.buffers.items c.args.ends.now Goes =
    subst (λ (l : List BufferState). GoesOn c.args.window c.args.ticks c.loop-tick.tick c.tick.new.taps.course l c.args.ends.now Goes) c.deref.ensures.value
    (subst (GoesOn c.args.window c.args.ticks c.loop-tick.tick c.tick.new.taps.course c.deref.result.now c.args.ends.now) c.in-Goes.is c.course_of.ensures) in
    let next : suc c.loop-tick.tick ≡ c.loop-tick.tick + 1 = omega arith in
    record {
      course = g.0;
      kept = kept_same c.loop-tick.taps.buffers.items c.tick.new.taps.buffers.items c.tick.ensures.taps c.loop-tick.invariant.kept;
      changed = same_buffers_trans c.args.taps.now.buffers.items c.loop-tick.taps.buffers.items c.tick.new.taps.buffers.items c.loop-tick.invariant.changed c.tick.ensures.taps;
      goes = λ score may.
          subst (λ k. RunsAt score.base score.text c.args.window c.args.ticks c.args.engine.now.parts.clock k score.chunks c.tick.new.self.parts c.tick.new.taps.buffers.items) next
          (goes_on score c.args.window c.args.ticks c.args.engine.now.parts.clock c.args.ends.now c.args.taps.now.buffers.items (moves score c.args.window c.args.ticks c.args.engine.now.parts.clock c.args.ends.now c.args.engine.now.parts c.args.taps.now.buffers.items may)
          (λ s. faults_alone 0) c.loop-tick.engine.outs c.tick.new.self.outs c.loop-tick.tick c.loop-tick-test.true c.requires.some c.loop-tick.engine.parts c.tick.new.self.parts c.loop-tick.taps c.tick.new.taps c.loop-tick.invariant.kept
          (c.loop-tick.invariant.goes score may) c.loop-tick.invariant.course c.tick.ensures.setting c.tick.ensures.clock (on_ok c.tick.result ok c.tick.ensures.ticked) c.tick.ensures.taps g.0 g.1);
    }

pub returns-in-Waits-clause-made : goal.returns-in-Waits-clause-made
returns-in-Waits-clause-made c = λ n score e may.
    let ok : is_err c.tick.result ≡ false = sym c.is_err.ensures.value ∙ c.if-is_err.false in
    let g : c.tick.new.taps.course ≡ Waits = subst (GoesOn c.args.window c.args.ticks c.loop-tick.tick c.tick.new.taps.course c.deref.result.now c.args.ends.now) c.in-Waits.is c.course_of.ensures in
    let here : c.loop-tick.tick ≡ n = cc in
    subst (λ k. HasTurned score.base c.args.window c.args.ticks score.text c.args.engine.now.parts.clock k score.chunks (chunks_of c.tick.new.taps.buffers.items)) here
    (waits score c.args.window c.args.ticks c.args.engine.now.parts.clock c.args.ends.now c.args.taps.now.buffers.items (moves score c.args.window c.args.ticks c.args.engine.now.parts.clock c.args.ends.now c.args.engine.now.parts c.args.taps.now.buffers.items may)
    (λ s. faults_alone 0) c.loop-tick.engine.outs c.tick.new.self.outs c.loop-tick.tick c.loop-tick-test.true c.requires.some c.loop-tick.engine.parts c.tick.new.self.parts c.loop-tick.taps c.tick.new.taps c.loop-tick.invariant.kept
    (c.loop-tick.invariant.goes score may) c.loop-tick.invariant.course c.tick.ensures.setting c.tick.ensures.clock (on_ok c.tick.result ok c.tick.ensures.ticked) c.tick.ensures.taps g)

pub returns-in-Fails-clause-refused : goal.returns-in-Fails-clause-refused
returns-in-Fails-clause-refused c = λ score e may.
    let ok : is_err c.tick.result ≡ false = sym c.is_err.ensures.value ∙ c.if-is_err.false in
    let g : GoesOn c.args.window c.args.ticks c.loop-tick.tick c.tick.new.taps.course c.tick.new.taps.buffers.items c.args.ends.now Fails =
    subst (λ (l : List BufferState). GoesOn c.args.window c.args.ticks c.loop-tick.tick c.tick.new.taps.course l c.args.ends.now Fails) c.deref.ensures.value
    (subst (GoesOn c.args.window c.args.ticks c.loop-tick.tick c.tick.new.taps.course c.deref.result.now c.args.ends.now) c.in-Fails.is c.course_of.ensures) in
    fails score c.args.window c.args.ticks c.args.engine.now.parts.clock c.args.ends.now c.args.taps.now.buffers.items (moves score c.args.window c.args.ticks c.args.engine.now.parts.clock c.args.ends.now c.args.engine.now.parts c.args.taps.now.buffers.items may)
    (λ s. faults_alone 0) c.loop-tick.engine.outs c.tick.new.self.outs c.loop-tick.tick c.loop-tick-test.true c.requires.some c.loop-tick.engine.parts c.tick.new.self.parts c.loop-tick.taps c.tick.new.taps c.loop-tick.invariant.kept
    (c.loop-tick.invariant.goes score may) c.loop-tick.invariant.course c.tick.ensures.setting c.tick.ensures.clock (on_ok c.tick.result ok c.tick.ensures.ticked) c.tick.ensures.taps g

pub returns-clause-made : goal.returns-clause-made
returns-clause-made c = λ n score e may.
    let here : c.args.ticks ≡ n = cc in
    let full : c.loop-tick.tick ≡ c.args.ticks = omega (arith, c.loop-tick-test.false, c.loop-tick.auto.tick-end) in
    subst (λ k. HasTurned score.base c.args.window c.args.ticks score.text c.args.engine.now.parts.clock k score.chunks (chunks_of c.loop-tick.taps.buffers.items)) here
    (all_made score c.args.window c.args.ticks c.args.engine.now.parts.clock c.args.ends.now c.args.taps.now.buffers.items (moves score c.args.window c.args.ticks c.args.engine.now.parts.clock c.args.ends.now c.args.engine.now.parts c.args.taps.now.buffers.items may) c.loop-tick.tick c.loop-tick.engine.parts c.loop-tick.taps.buffers.items full
    (c.loop-tick.invariant.goes score may))

pub returns-in-Waits-clause-same : goal.returns-in-Waits-clause-same
returns-in-Waits-clause-same c = same_buffers_trans c.args.taps.now.buffers.items c.loop-tick.taps.buffers.items c.tick.new.taps.buffers.items c.loop-tick.invariant.changed c.tick.ensures.taps

pub returns-in-Fails-clause-same : goal.returns-in-Fails-clause-same
returns-in-Fails-clause-same c = same_buffers_trans c.args.taps.now.buffers.items c.loop-tick.taps.buffers.items c.tick.new.taps.buffers.items c.loop-tick.invariant.changed c.tick.ensures.taps

pub returns-clause-same : goal.returns-clause-same
returns-clause-same c = c.loop-tick.invariant.changed
