use Rattle.std.proofs.Common.{◌≤◌, ◌∙◌, rules, sym, arith}
use Rattle.clock_threads.proofs.Ending.{loop_none, loop_can, loop_close, loop_lists, loop_logs, loop_more, loop_part, loop_broke, loop_write, loop_all, not_done, told_some, with_one, write_moved}
use Rattle.clock_threads.proofs.Logging.{engines_then}
use Rattle.clock_threads.proofs.windows.run_windows.Goals as goal

pub loop-made-init : goal.loop-made-init
loop-made-init g c = loop_none g.O.Sink.told c.args.wires.now c.args.window c.args.ticks c.args.tasks.now c.args.logs.now c.requires.ready

pub run_window-requires-clause-can : goal.run_window-requires-clause-can
run_window-requires-clause-can g c = λ κs lives.
    loop_can g.O.Sink.told c.args.wires.now c.args.window c.args.ticks c.loop-made.made c.min-count.result c.args.tasks.now c.loop-made.tasks c.args.logs.now c.loop-made.logs c.requires.ready c.requires.few
    c.loop-made-test.true c.min-count.ensures c.loop-made.invariant

pub close_joins-kept-requires-clause-may : goal.close_joins-kept-requires-clause-may
close_joins-kept-requires-clause-may g c =
    loop_close g.O.Sink.told c.args.wires.now c.args.window c.args.ticks c.loop-made.made c.min-count.result c.args.tasks.now c.loop-made.tasks c.run_window.new.tasks c.args.logs.now c.loop-made.logs c.requires.ready
    c.loop-made-test.true c.min-count.ensures c.loop-made.invariant c.run_window.ensures.ran c.run_window.auto.tasks

pub returns-in-Some-clause-part : goal.returns-in-Some-clause-part
returns-in-Some-clause-part g c =
    loop_broke g.O.Sink.told c.args.wires.now c.args.window c.args.ticks c.loop-made.made c.min-count.result c.args.tasks.now c.loop-made.tasks c.run_window.new.tasks c.args.logs.now c.loop-made.logs c.requires.ready
    c.loop-made-test.true c.min-count.ensures c.loop-made.invariant c.run_window.ensures.ran c.run_window.auto.tasks
    c.close_joins-kept.new.tasks c.close_joins-kept.ensures.shut c.close_joins-kept.new.tasks c.close_joins-kept.ensures.engines

pub returns-in-Some-clause-done : goal.returns-in-Some-clause-done
returns-in-Some-clause-done g c = λ e.
    let ended_by = told_some _ c.in-Some.is c.stopped_in-stopped.ensures.some in
    absurd (with_one c.run_window.new.tasks (let w = ended_by.within in omega (arith, w)) (λ d. not_done _ ended_by.fault (sym (ended_by.end_is d) ∙ e)))

pub returns-in-Some-clause-write : goal.returns-in-Some-clause-write
returns-in-Some-clause-write g c = λ clock sink e.
    write_moved g.O.Sink.told c.args.wires.now c.args.window c.args.ticks c.loop-made.made c.min-count.result c.args.tasks.now c.loop-made.tasks c.run_window.new.tasks c.args.logs.now c.loop-made.logs c.requires.ready
    c.loop-made-test.true c.min-count.ensures c.loop-made.invariant c.run_window.ensures.ran c.run_window.auto.tasks
    c.close_joins-kept.new.tasks c.close_joins-kept.ensures.engines clock sink
    (loop_write g.O.Sink.told c.args.wires.now c.args.window c.args.ticks c.loop-made.made c.min-count.result c.args.tasks.now c.loop-made.tasks c.run_window.new.tasks c.args.logs.now c.loop-made.logs c.requires.ready
    c.loop-made-test.true c.min-count.ensures c.loop-made.invariant c.run_window.ensures.ran c.run_window.auto.tasks
    _ (told_some _ c.in-Some.is c.stopped_in-stopped.ensures.some) clock sink e)

pub close_joins-kept-requires-clause-logs : goal.close_joins-kept-requires-clause-logs
close_joins-kept-requires-clause-logs g c =
    loop_logs g.O.Sink.told c.args.wires.now c.args.window c.args.ticks c.loop-made.made c.min-count.result c.args.tasks.now c.loop-made.tasks c.run_window.new.tasks c.args.logs.now c.loop-made.logs c.requires.ready
    c.loop-made-test.true c.min-count.ensures c.loop-made.invariant c.run_window.ensures.ran c.run_window.auto.tasks

pub close_lists-requires : goal.close_lists-requires
close_lists-requires g c =
    loop_lists g.O.Sink.told c.args.wires.now c.args.window c.args.ticks c.loop-made.made c.min-count.result c.args.tasks.now c.loop-made.tasks c.run_window.new.tasks c.args.logs.now c.loop-made.logs c.requires.ready
    c.loop-made-test.true c.min-count.ensures c.loop-made.invariant c.run_window.ensures.ran c.run_window.auto.tasks c.close_joins-kept.new.tasks c.close_joins-kept.new.logs c.in_default-kept.ensures.closed

pub returns-in-Err-clause-part : goal.returns-in-Err-clause-part
returns-in-Err-clause-part g c =
    loop_broke g.O.Sink.told c.args.wires.now c.args.window c.args.ticks c.loop-made.made c.min-count.result c.args.tasks.now c.loop-made.tasks c.run_window.new.tasks c.args.logs.now c.loop-made.logs c.requires.ready
    c.loop-made-test.true c.min-count.ensures c.loop-made.invariant c.run_window.ensures.ran c.run_window.auto.tasks c.close_joins-kept.new.tasks c.close_joins-kept.ensures.shut c.close_joins-kept.new.tasks c.close_joins-kept.ensures.engines

pub returns-in-Err-close_lists-clause-part : goal.returns-in-Err-close_lists-clause-part
returns-in-Err-close_lists-clause-part g c =
    loop_broke g.O.Sink.told c.args.wires.now c.args.window c.args.ticks c.loop-made.made c.min-count.result c.args.tasks.now c.loop-made.tasks c.run_window.new.tasks c.args.logs.now c.loop-made.logs c.requires.ready
    c.loop-made-test.true c.min-count.ensures c.loop-made.invariant c.run_window.ensures.ran c.run_window.auto.tasks c.close_joins-kept.new.tasks c.close_joins-kept.ensures.shut c.close_lists.new.tasks
    (engines_then c.run_window.new.tasks c.close_joins-kept.new.tasks c.close_lists.new.tasks c.close_joins-kept.ensures.engines c.close_lists.ensures.engines)

pub loop-made-preserved : goal.loop-made-preserved
loop-made-preserved g c =
    loop_more g.O.Sink.told c.args.wires.now c.args.window c.args.ticks c.loop-made.made c.min-count.result c.args.tasks.now c.loop-made.tasks c.run_window.new.tasks c.args.logs.now c.loop-made.logs c.requires.ready
    c.loop-made-test.true c.min-count.ensures c.loop-made.invariant c.run_window.ensures.ran c.run_window.auto.tasks c.in_default.ensures.none c.close_joins-kept.new.tasks c.close_lists.new.tasks c.close_joins-kept.new.logs
    c.in_default-kept.ensures.closed c.in_default-close_lists.ensures.ended

pub returns-clause-done : goal.returns-clause-done
returns-clause-done g c = λ e.
    let high : c.args.ticks ≤ c.loop-made.made = search rules in
    loop_all g.O.Sink.told c.args.wires.now c.args.window c.args.ticks c.loop-made.made c.args.tasks.now c.loop-made.tasks c.loop-made.logs high c.loop-made.invariant

pub returns-clause-part : goal.returns-clause-part
returns-clause-part g c =
    loop_part g.O.Sink.told c.args.wires.now c.args.window c.args.ticks c.loop-made.made c.args.tasks.now c.loop-made.tasks c.args.logs.now c.loop-made.logs c.requires.ready c.loop-made.invariant
