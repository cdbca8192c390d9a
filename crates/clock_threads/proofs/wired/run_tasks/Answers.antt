use Rattle.std.proofs.Common.{List, map, sym, subst}
use Rattle.buffer_ends.specs.declared.run_end.End.TheVariants.{Memory}
use Rattle.clock_ticks.specs.declared.engine.ClockEngine.{ClockEngine}
use Rattle.clock_threads.specs.EngineTasks.{engine_of}
use Rattle.clock_threads.specs.ThreadRuns.{HasRunSome}
use Rattle.clock_threads.proofs.Idling.{memory_no_write, none_made}
use Rattle.clock_threads.proofs.Readying.{ready, has_run, has_run_some, engines_same}
use Rattle.clock_threads.proofs.wired.run_tasks.Goals as goal

pub run_windows-requires-clause-ready : goal.run_windows-requires-clause-ready
run_windows-requires-clause-ready g c = λ κs lives.
    ready g.O.Sink.told c.args.plan.now c.args.wires.now c.args.window c.args.ticks c.args.tasks.now c.join_all.new.tasks
    c.requires.some c.requires.wires c.requires.tasks c.requires.fresh.setting c.requires.fresh.clocks c.requires.fresh.are c.in_default.ensures.joined c.args.logs.now c.requires.logs

pub returns-clause-done : goal.returns-clause-done
returns-clause-done g c = λ e setting clocks fresh.
    has_run g.O.Sink.told c.args.plan.now c.args.wires.now c.args.window c.args.ticks c.args.tasks.now c.join_all.new.tasks
    c.requires.some c.requires.wires c.requires.tasks setting clocks fresh c.in_default.ensures.joined c.run_windows.new.tasks c.run_windows.new.logs (c.run_windows.ensures.done e)

pub returns-clause-part : goal.returns-clause-part
returns-clause-part g c = λ setting clocks fresh.
    has_run_some g.O.Sink.told c.args.plan.now c.args.wires.now c.args.window c.args.ticks c.args.tasks.now c.join_all.new.tasks
    c.requires.some c.requires.wires c.requires.tasks setting clocks fresh c.in_default.ensures.joined c.run_windows.new.tasks c.run_windows.result c.run_windows.ensures.part c.run_windows.ensures.write

pub returns-in-Err-clause-part : goal.returns-in-Err-clause-part
returns-in-Err-clause-part g c = λ setting clocks fresh.
    let old = map (engine_of {S = g.row.O.Denot} {R = g.row.R.Denot}) c.args.tasks.now in
    subst (λ (new : List (ClockEngine g.row.O.Denot)). HasRunSome g.O.Sink.told setting clocks c.args.window c.args.ticks old new Memory)
    (sym (engines_same c.args.tasks.now c.join_all.new.tasks c.join_all.ensures.engines))
    (none_made g.O.Sink.told c.args.plan.now setting clocks c.args.window c.args.ticks old Memory memory_no_write fresh.engines_are)
