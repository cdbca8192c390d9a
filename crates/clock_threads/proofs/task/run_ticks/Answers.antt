use Rattle.std.proofs.Common.{◌≡◌, ◌+◌, sym, subst, add-one, arith, rules}
use Rattle.clock_ticks.proofs.Needing.{has_buffers}
use Rattle.clock_ticks.proofs.Pieces.{kept_some, kept_tick}
use Rattle.clock_threads.specs.UnbufferedTicks.{with_taps}
use Rattle.clock_threads.proofs.Running.{Running, running_none, running_more, running_broke, running_all, rooms_fewer, room_one}
use Rattle.clock_threads.proofs.task.run_ticks.Goals as goal

pub loop-init : goal.loop-init
loop-init g c =
    running_none g.O.Sink.told g.T.Taps.stands g.T.Taps.buffers g.T.Taps.same (with_taps c.args.taps.now c.args.engine.now) (g.met.T.Taps.same_refl c.args.taps.now) c.requires.stands.stand.runs

pub returns-in-Err : goal.returns-in-Err
returns-in-Err g c =
    let n = c.tick.ensures in
    running_broke g.O.Sink.told g.T.Taps.stands g.T.Taps.buffers g.T.Taps.same c.loop.counter (with_taps c.args.taps.now c.args.engine.now) (with_taps c.loop.taps c.loop.engine) c.tick.new.self c.tick.new.taps
    c.loop.invariant (record { setting = n.setting; clock = n.clock; outs = n.outs; kept = kept_some g.O.Sink.told _ _ c.in-Err.ensures.part; keeping = n.keeping }) c.args.count c.loop-test.true
    (g.met.T.Taps.same_trans c.args.taps.now c.loop.taps c.tick.new.taps c.loop.invariant.taps n.taps) n.buffers c.in-Err.ensures.stopped c.in-Err.ensures.part
    _ c.in-Err.ensures.fault c.in-Err.ensures.cause (λ none refused. has_buffers _ n.whole.parts none (c.in-Err.ensures.memory refused))

pub loop-preserved : goal.loop-preserved
loop-preserved g c =
    let n = c.tick.ensures in
    subst (λ k. Running g.O.Sink.told g.T.Taps.stands g.T.Taps.buffers g.T.Taps.same k (with_taps c.args.taps.now c.args.engine.now) (with_taps c.tick.new.taps c.tick.new.self)) (sym (add-one c.loop.counter))
    (running_more g.O.Sink.told g.T.Taps.stands g.T.Taps.buffers g.T.Taps.same c.loop.counter (with_taps c.args.taps.now c.args.engine.now) (with_taps c.loop.taps c.loop.engine) c.tick.new.self c.tick.new.taps
    c.loop.invariant (record { setting = n.setting; clock = n.clock; outs = n.outs; kept = kept_tick g.O.Sink.told _ _ _ c.in_default.ensures.took; keeping = n.keeping })
    (g.met.T.Taps.same_trans c.args.taps.now c.loop.taps c.tick.new.taps c.loop.invariant.taps n.taps) n.buffers c.in_default.ensures.ticked
    c.in_default.ensures.took c.in_default.ensures.room c.in_default.ensures.runs)

pub returns : goal.returns
returns g c =
    let is : c.loop.counter ≡ c.args.count = search rules in
    running_all g.O.Sink.told g.T.Taps.stands g.T.Taps.buffers g.T.Taps.same c.loop.counter c.args.count (with_taps c.args.taps.now c.args.engine.now) (with_taps c.loop.taps c.loop.engine) is c.loop.invariant

pub tick-requires-clause-room : goal.tick-requires-clause-room
tick-requires-clause-room g c =
    let less = c.loop-test.true in
    room_one g.O.Sink.told c.loop.engine.parts c.loop.engine.outs
    (c.loop.invariant.rooms 1 (rooms_fewer g.O.Sink.told c.args.engine.now.parts c.args.engine.now.outs (1 + c.loop.counter) c.args.count (omega (arith, less)) c.requires.rooms))

pub tick-requires-clause-few : goal.tick-requires-clause-few
tick-requires-clause-few g c =
    let s = c.requires.stands in let m = c.loop.invariant.engine s.ticks s.answers s.stand in
    let now = m.1.made in let was = s.stand.made in let few = c.requires.few in let less = c.loop-test.true in
    omega (arith, now, was, few, less)
