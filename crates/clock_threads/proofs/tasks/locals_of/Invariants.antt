use Rattle.clock_threads.specs.EngineTasks.{AreLocals}
use Rattle.clock_threads.proofs.tasks.locals_of.Given as goal

abbrev pub invariant-loop : goal.invariant-loop
invariant-loop l = AreLocals l.plan l.counter l.locals.items
