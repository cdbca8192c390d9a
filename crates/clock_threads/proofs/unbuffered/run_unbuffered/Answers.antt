use Rattle.std.proofs.Common.{◌∙◌, subst, sym}
use Rattle.clock_threads.specs.ThreadRuns.{HasRunSome}
use Rattle.clock_threads.proofs.UnbufferedRuns.{unbuffered_all, unbuffered_ready, unbuffered_some}
use Rattle.clock_threads.proofs.unbuffered.run_unbuffered.Goals as goal

pub run_unbuffered_windows-requires-clause-ready : goal.run_unbuffered_windows-requires-clause-ready
run_unbuffered_windows-requires-clause-ready g c = λ κs lives.
    let u = c.requires.engines in
    unbuffered_ready g.O.Sink.told u.plan u.none c.args.window c.args.ticks c.args.engines.now c.requires.some u.setting u.clocks u.are

pub returns-clause-done : goal.returns-clause-done
returns-clause-done g c = λ e plan setting clocks none are.
    unbuffered_all g.O.Sink.told plan none c.args.window c.args.ticks c.args.engines.now c.requires.some setting clocks are
    c.run_unbuffered_windows.new.engines _ _ c.ended.ensures.none.0 c.ended.ensures.none.1 (c.run_unbuffered_windows.ensures.done (sym c.ended.ensures.end ∙ e))

pub returns-clause-part : goal.returns-clause-part
returns-clause-part g c = λ plan setting clocks none are.
    subst (HasRunSome g.O.Sink.told setting clocks c.args.window c.args.ticks c.args.engines.now c.run_unbuffered_windows.new.engines) (sym c.ended.ensures.end)
    (unbuffered_some g.O.Sink.told plan none c.args.window c.args.ticks c.args.engines.now c.requires.some setting clocks are
    c.run_unbuffered_windows.new.engines c.run_unbuffered_windows.result c.run_unbuffered_windows.ensures.part c.run_unbuffered_windows.ensures.write)

pub returns-clause-memory : goal.returns-clause-memory
returns-clause-memory g c = λ none e. c.run_unbuffered_windows.ensures.memory none (sym c.ended.ensures.end ∙ e)
