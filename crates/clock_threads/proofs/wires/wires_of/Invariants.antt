use Rattle.clock_threads.specs.Plans.{AreFirstWires}
use Rattle.clock_threads.proofs.wires.wires_of.Given as goal

abbrev pub invariant-loop-b : goal.invariant-loop-b
invariant-loop-b l = AreFirstWires l.plan l.clocks l.b l.wires.items
