use Rattle.std.proofs.Common.{◌-◌, []}
use Rattle.clock_threads.specs.UnbufferedTasks.{unbuffered_tasks}
use Rattle.clock_threads.proofs.Ending.{Loop}
use Rattle.clock_threads.proofs.unbuffered_windows.run_unbuffered_windows.Given as goal

abbrev pub invariant-loop-made : goal.invariant-loop-made
invariant-loop-made g l = Loop g.O.Sink.told [] l.window l.ticks l.made (unbuffered_tasks l.fn.engines) (unbuffered_tasks l.engines) []

abbrev pub decreases-loop-made : goal.decreases-loop-made
decreases-loop-made g l = l.ticks - l.made
