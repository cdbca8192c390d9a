use Rattle.clock_instants.specs.Stretches.{HaveLanes}
use Rattle.clock_instants.proofs.stretch_room.lanes_of.Given as goal

abbrev pub invariant-loop-i : goal.invariant-loop-i
invariant-loop-i l = HaveLanes l.states l.i l.lanes.items
