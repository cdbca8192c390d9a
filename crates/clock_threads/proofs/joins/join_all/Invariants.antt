use Rattle.std.proofs.Common.{length}
use Rattle.clock_threads.specs.Starts.{AreJoined}
use Rattle.clock_threads.proofs.Joining.{Waiting}
use Rattle.clock_threads.proofs.joins.join_all.Given as goal

abbrev pub invariant-loop-put : goal.invariant-loop-put
invariant-loop-put g l = record {
  waiting : Waiting l.wires l.queues.items l.passes.items;
  joined : AreJoined l.wires (length l.passes.items) l.fn.tasks l.tasks;
}

abbrev pub decreases-loop-put : goal.decreases-loop-put
decreases-loop-put g l = length l.passes.items
