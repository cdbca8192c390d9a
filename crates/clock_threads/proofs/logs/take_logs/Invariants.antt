use Rattle.clock_threads.proofs.Collecting.{TookUpto}
use Rattle.clock_threads.proofs.logs.take_logs.Given as goal

abbrev pub invariant-loop-b : goal.invariant-loop-b
invariant-loop-b l = TookUpto l.wires l.clock l.b l.fn.lists.items l.lists.items l.fn.logs l.logs
