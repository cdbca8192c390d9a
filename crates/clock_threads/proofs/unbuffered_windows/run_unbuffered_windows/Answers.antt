use Rattle.std.proofs.Common.{◌≤◌, ◌∙◌, [], rules, sym, arith}
use Rattle.clock_threads.specs.UnbufferedTasks.{unbuffered_tasks}
use Rattle.clock_threads.proofs.UnbufferedEngines.{unbuffered_can, unbuffered_long, unbuffered_memory, unbuffered_ran, unbuffered_runs, none_closed, none_ended, none_shut}
use Rattle.clock_threads.proofs.Ending.{loop_none, loop_can, loop_more, loop_part, loop_write, loop_all, not_done, with_one, loop_broke}
use Rattle.clock_threads.proofs.Logging.{engines_refl}
use Rattle.clock_threads.proofs.unbuffered_windows.run_unbuffered_windows.Goals as goal

pub loop-made-init : goal.loop-made-init
loop-made-init g c = loop_none g.O.Sink.told [] c.args.window c.args.ticks (unbuffered_tasks c.args.engines.now) [] c.requires.ready

pub run_unbuffered_window-requires-clause-some : goal.run_unbuffered_window-requires-clause-some
run_unbuffered_window-requires-clause-some g c =
    let some = c.requires.ready.some in let many = c.loop-made.invariant.many in let n = unbuffered_long c.args.engines.now in let m = unbuffered_long c.loop-made.engines in omega (arith, some, many, n, m)

pub run_unbuffered_window-requires-clause-can : goal.run_unbuffered_window-requires-clause-can
run_unbuffered_window-requires-clause-can g c = λ κs lives.
    unbuffered_can g.O.Sink.told c.args.window c.args.ticks c.min-count.result c.loop-made.engines
    (loop_can g.O.Sink.told [] c.args.window c.args.ticks c.loop-made.made c.min-count.result (unbuffered_tasks c.args.engines.now) (unbuffered_tasks c.loop-made.engines) [] [] c.requires.ready c.requires.few
    c.loop-made-test.true c.min-count.ensures c.loop-made.invariant)

pub returns-in-Some-clause-part : goal.returns-in-Some-clause-part
returns-in-Some-clause-part g c =
    loop_broke g.O.Sink.told [] c.args.window c.args.ticks c.loop-made.made c.min-count.result (unbuffered_tasks c.args.engines.now) (unbuffered_tasks c.loop-made.engines) (unbuffered_tasks c.run_unbuffered_window.new.engines) [] [] c.requires.ready
    c.loop-made-test.true c.min-count.ensures c.loop-made.invariant
    (unbuffered_ran g.O.Sink.told c.args.window c.args.ticks c.min-count.result c.loop-made.engines c.run_unbuffered_window.new.engines c.run_unbuffered_window.auto.engines c.run_unbuffered_window.ensures.ran)
    (unbuffered_long c.run_unbuffered_window.new.engines ∙ c.run_unbuffered_window.auto.engines ∙ sym (unbuffered_long c.loop-made.engines))
    (unbuffered_tasks c.run_unbuffered_window.new.engines) (none_shut (unbuffered_tasks c.run_unbuffered_window.new.engines)) (unbuffered_tasks c.run_unbuffered_window.new.engines) (engines_refl (unbuffered_tasks c.run_unbuffered_window.new.engines))

pub returns-in-Some-clause-done : goal.returns-in-Some-clause-done
returns-in-Some-clause-done g c = λ e.
    let ended_by = c.in-Some.ensures.some in
    absurd (with_one (unbuffered_tasks c.run_unbuffered_window.new.engines) (let w = ended_by.within in omega (arith, w)) (λ d. not_done _ ended_by.fault (sym (ended_by.end_is d) ∙ e)))

pub returns-in-Some-clause-memory : goal.returns-in-Some-clause-memory
returns-in-Some-clause-memory g c =
    unbuffered_memory g.O.Sink.told c.args.window c.args.ticks c.loop-made.made c.min-count.result c.args.engines.now c.loop-made.engines c.run_unbuffered_window.new.engines c.requires.ready
    c.loop-made.invariant c.run_unbuffered_window.auto.engines c.run_unbuffered_window.ensures.ran _ c.in-Some.ensures.some

pub returns-in-Some-clause-write : goal.returns-in-Some-clause-write
returns-in-Some-clause-write g c =
    loop_write g.O.Sink.told [] c.args.window c.args.ticks c.loop-made.made c.min-count.result (unbuffered_tasks c.args.engines.now) (unbuffered_tasks c.loop-made.engines) (unbuffered_tasks c.run_unbuffered_window.new.engines) [] [] c.requires.ready
    c.loop-made-test.true c.min-count.ensures c.loop-made.invariant
    (unbuffered_ran g.O.Sink.told c.args.window c.args.ticks c.min-count.result c.loop-made.engines c.run_unbuffered_window.new.engines c.run_unbuffered_window.auto.engines c.run_unbuffered_window.ensures.ran)
    (unbuffered_long c.run_unbuffered_window.new.engines ∙ c.run_unbuffered_window.auto.engines ∙ sym (unbuffered_long c.loop-made.engines)) _ c.in-Some.ensures.some

pub loop-made-preserved : goal.loop-made-preserved
loop-made-preserved g c =
    let now = unbuffered_tasks c.run_unbuffered_window.new.engines in
    loop_more g.O.Sink.told [] c.args.window c.args.ticks c.loop-made.made c.min-count.result (unbuffered_tasks c.args.engines.now) (unbuffered_tasks c.loop-made.engines) now [] [] c.requires.ready
    c.loop-made-test.true c.min-count.ensures c.loop-made.invariant
    (unbuffered_ran g.O.Sink.told c.args.window c.args.ticks c.min-count.result c.loop-made.engines c.run_unbuffered_window.new.engines c.run_unbuffered_window.auto.engines c.run_unbuffered_window.ensures.ran)
    (unbuffered_long c.run_unbuffered_window.new.engines ∙ c.run_unbuffered_window.auto.engines ∙ sym (unbuffered_long c.loop-made.engines))
    (unbuffered_runs c.run_unbuffered_window.new.engines c.in_default.ensures.none) now now [] (none_closed now) (none_ended now)

pub returns-clause-many : goal.returns-clause-many
returns-clause-many g c = sym (unbuffered_long c.loop-made.engines) ∙ c.loop-made.invariant.many ∙ unbuffered_long c.args.engines.now

pub returns-in-Some-clause-many : goal.returns-in-Some-clause-many
returns-in-Some-clause-many g c = c.run_unbuffered_window.auto.engines ∙ sym (unbuffered_long c.loop-made.engines) ∙ c.loop-made.invariant.many ∙ unbuffered_long c.args.engines.now

pub returns-clause-done : goal.returns-clause-done
returns-clause-done g c = λ e.
    let high : c.args.ticks ≤ c.loop-made.made = search rules in
    loop_all g.O.Sink.told [] c.args.window c.args.ticks c.loop-made.made (unbuffered_tasks c.args.engines.now) (unbuffered_tasks c.loop-made.engines) [] high c.loop-made.invariant

pub returns-clause-part : goal.returns-clause-part
returns-clause-part g c =
    loop_part g.O.Sink.told [] c.args.window c.args.ticks c.loop-made.made (unbuffered_tasks c.args.engines.now) (unbuffered_tasks c.loop-made.engines) [] [] c.requires.ready c.loop-made.invariant
