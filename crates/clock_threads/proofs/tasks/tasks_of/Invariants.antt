use Rattle.std.proofs.Common.{vec_capacity}
use Rattle.clock_threads.proofs.Making.{Making}
use Rattle.clock_threads.proofs.tasks.tasks_of.Given as goal

abbrev pub invariant-loop : goal.invariant-loop
invariant-loop g l = Making l.plan l.count l.counter l.fn.engines.items l.engines.items (vec_capacity l.engines) l.tasks.items (vec_capacity l.tasks) l.locals.items
