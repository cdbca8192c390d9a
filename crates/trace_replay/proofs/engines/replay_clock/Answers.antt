use Rattle.std.proofs.Common.{◌≡◌, ◌∙◌, ◌+◌, suc, length, sym, ap, subst, arith}
use Rattle.trace_turns.specs.Answering.{same_buffers_refl, same_buffers_trans}
use Rattle.trace_replay.specs.Replaying.{IsReplaying}
use Rattle.trace_replay.proofs.Rendering.{replay_breaks, replay_goes_on, room_now, sink_failed, still_goes}
use Rattle.std.proofs.lemmas.Result.{err_from_is_err_and}
use Rattle.node_states.proofs.Chunks.{on_err}
use Rattle.trace_replay.proofs.engines.replay_clock.Goals as goal

pub loop-tick-init : goal.loop-tick-init
loop-tick-init g c = record {
  behind = omega arith;
  course = c.requires.goes;
  changed = same_buffers_refl c.args.taps.now.buffers.items;
  goes = λ score total first may. may.before;
}

pub tick-requires-clause-runs : goal.tick-requires-clause-runs
tick-requires-clause-runs g c = let p = c.requires.play in (c.loop-tick.invariant.goes p.0 p.1 p.2 p.3).engine.runs

pub tick-requires-clause-few : goal.tick-requires-clause-few
tick-requires-clause-few g c = let p = c.requires.play in let made = (c.loop-tick.invariant.goes p.0 p.1 p.2 p.3).engine.made in omega (arith, made, c.loop-tick-test.true, c.requires.few)

pub tick-requires-clause-room : goal.tick-requires-clause-room
tick-requires-clause-room g c =
    let p = c.requires.play in
    let most = p.3.within in
    room_now g.O.Sink.told p.1 c.loop-tick._tick c.loop-tick.engine (omega (arith, c.loop-tick-test.true, most)) (c.loop-tick.invariant.goes p.0 p.1 p.2 p.3).rooms

pub tick-requires-clause-buffers : goal.tick-requires-clause-buffers
tick-requires-clause-buffers g c =
    let p = c.requires.play in
    let now = c.loop-tick.invariant.goes p.0 p.1 p.2 p.3 in
    sym now.fills.many ∙ now.of.many ∙ ap (λ s. length s.plan.buffers) (sym now.over)

pub loop-tick-preserved : goal.loop-tick-preserved
loop-tick-preserved g c =
    let next : suc c.loop-tick._tick ≡ c.loop-tick._tick + 1 = omega arith in
    let p = c.requires.play in
    record {
      behind = (let low = c.loop-tick.invariant.behind in omega (arith, low));
      course = still_goes g.O.Sink.told p.0 p.1 c.args.engine.now.parts.clock c.args.ticks c.args.made p.2 c.args.engine.now c.args.taps.now.buffers.items p.3 c.loop-tick._tick c.loop-tick-test.true c.loop-tick.engine c.tick.new.self
          c.loop-tick.taps c.tick.new.taps (c.loop-tick.invariant.goes p.0 p.1 p.2 p.3) c.loop-tick.invariant.course c.tick.ensures.taps c.tick.ensures.setting c.tick.ensures.clock
          c.in_ok-tick.ensures.ticked c.tick.ensures.whole.parts c.tick.ensures.outs c.in_ok-tick.ensures.took c.in_ok-tick.ensures.keeping c.in_ok-tick.ensures.room;
      changed = same_buffers_trans c.args.taps.now.buffers.items c.loop-tick.taps.buffers.items c.tick.new.taps.buffers.items c.loop-tick.invariant.changed c.tick.ensures.taps;
      goes = λ score total first may.
          subst (λ k. IsReplaying g.O.Sink.told score total c.args.engine.now.parts.clock k first c.tick.new.self c.tick.new.taps.buffers.items) next
          (replay_goes_on g.O.Sink.told score total c.args.engine.now.parts.clock c.args.ticks c.args.made first c.args.engine.now c.args.taps.now.buffers.items may c.loop-tick._tick c.loop-tick-test.true c.loop-tick.engine c.tick.new.self
          c.loop-tick.taps c.tick.new.taps (c.loop-tick.invariant.goes score total first may) c.loop-tick.invariant.course c.tick.ensures.taps c.tick.ensures.setting c.tick.ensures.clock
          c.in_ok-tick.ensures.ticked c.tick.ensures.whole.parts c.tick.ensures.outs c.in_ok-tick.ensures.took c.in_ok-tick.ensures.keeping c.in_ok-tick.ensures.room);
    }

pub returns-in_err-tick-clause-part : goal.returns-in_err-tick-clause-part
returns-in_err-tick-clause-part g c = on_err c.from_residual.result (λ score total first may.
    replay_breaks g.O.Sink.told score total c.args.engine.now.parts.clock c.args.ticks c.args.made first c.args.engine.now c.args.taps.now.buffers.items may c.loop-tick._tick c.loop-tick-test.true c.loop-tick.engine c.tick.new.self
    c.loop-tick.taps c.tick.new.taps (c.loop-tick.invariant.goes score total first may) c.loop-tick.invariant.course c.tick.ensures.taps c.tick.ensures.setting c.tick.ensures.clock
    c.in_err-tick.ensures.stopped c.in_err-tick.ensures.part c.tick.ensures.outs)

pub returns-clause-done : goal.returns-clause-done
returns-clause-done g c = λ score total first may.
    let on = may.on in
    let behind = c.loop-tick.invariant.behind in
    let full : c.loop-tick._tick ≡ c.args.ticks = omega (arith, on, behind, c.loop-tick-test.false, c.loop-tick.auto._tick-end) in
    subst (λ k. IsReplaying g.O.Sink.told score total c.args.engine.now.parts.clock k first c.loop-tick.engine c.loop-tick.taps.buffers.items) full (c.loop-tick.invariant.goes score total first may)

pub returns-in_err-tick-clause-cause : goal.returns-in_err-tick-clause-cause
returns-in_err-tick-clause-cause g c =
    let p = err_from_is_err_and c.from_residual.result c.from_residual.ensures.1 in rw (p.1, p.2) (λ score total first sink may e.
    sink_failed g.O.Sink.told score total c.args.engine.now.parts.clock c.loop-tick._tick first c.loop-tick.engine c.tick.new.self c.loop-tick.taps.buffers.items (c.loop-tick.invariant.goes score total first may)
    c.in_err-tick.field-0.0 (c.in_err-tick.ensures.cause sink e) sink e)
