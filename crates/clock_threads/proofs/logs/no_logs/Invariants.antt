use Rattle.clock_threads.specs.Logs.{AreNoLogs}
use Rattle.clock_threads.proofs.logs.no_logs.Given as goal

abbrev pub invariant-loop : goal.invariant-loop
invariant-loop l = AreNoLogs l.counter l.logs.items
