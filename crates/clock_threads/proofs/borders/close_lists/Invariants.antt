use Rattle.clock_threads.proofs.Ended.{EndedUpto}
use Rattle.clock_threads.proofs.borders.close_lists.Given as goal

abbrev pub invariant-loop-b : goal.invariant-loop-b
invariant-loop-b g l = EndedUpto l.wires l.b l.fn.tasks l.tasks
