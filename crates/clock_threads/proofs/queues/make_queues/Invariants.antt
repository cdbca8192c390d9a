use Rattle.clock_threads.specs.Starts.{AreQueues}
use Rattle.clock_threads.proofs.queues.make_queues.Given as goal

abbrev pub invariant-loop-b : goal.invariant-loop-b
invariant-loop-b l = AreQueues l.wires l.b l.queues.items l.passes.items
