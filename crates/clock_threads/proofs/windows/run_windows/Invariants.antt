use Rattle.std.proofs.Common.{◌-◌}
use Rattle.clock_threads.proofs.Ending.{Loop}
use Rattle.clock_threads.proofs.windows.run_windows.Given as goal

abbrev pub invariant-loop-made : goal.invariant-loop-made
invariant-loop-made g l = Loop g.O.Sink.told l.wires l.window l.ticks l.made l.fn.tasks l.tasks l.logs

abbrev pub decreases-loop-made : goal.decreases-loop-made
decreases-loop-made g l = l.ticks - l.made
