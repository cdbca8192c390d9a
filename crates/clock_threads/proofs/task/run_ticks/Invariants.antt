use Rattle.clock_threads.specs.UnbufferedTicks.{with_taps}
use Rattle.clock_threads.proofs.Running.{Running}
use Rattle.clock_threads.proofs.task.run_ticks.Given as goal

abbrev pub invariant-loop : goal.invariant-loop
invariant-loop g l = Running g.O.Sink.told g.T.Taps.stands g.T.Taps.buffers g.T.Taps.same l.counter (with_taps l.fn.taps l.fn.engine) (with_taps l.taps l.engine)
