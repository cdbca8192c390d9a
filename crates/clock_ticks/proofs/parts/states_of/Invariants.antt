use Rattle.clock_ticks.specs.Beginnings.{AreNewStates}
use Rattle.clock_ticks.proofs.parts.states_of.Given as goal

abbrev pub invariant-loop-i : goal.invariant-loop-i
invariant-loop-i l = AreNewStates l.scene.plan.now l.scene.clocks.now l.clock l.i l.states.items
