use Rattle.std.proofs.Common.{vec_capacity}
use Rattle.clock_threads.proofs.Making.{Unmaking}
use Rattle.clock_threads.proofs.Collecting.{Collecting}
use Rattle.clock_threads.proofs.tasks.engines_of.Given as goal

abbrev pub invariant-loop-k : goal.invariant-loop-k
invariant-loop-k g l = record {
  engines : Unmaking l.count l.k l.fn.tasks.items l.engines.items (vec_capacity l.engines) l.tasks.items;
  logs : Collecting l.wires l.k l.fn.tasks.items l.tasks.items l.fn.logs l.logs;
}
