use Rattle.std.proofs.Common.{◌≡◌, ◌<◌, ◌≤◌, ◌-◌, true, length}
use Rattle.clock_nodes.specs.Nodes.{lies_at}
use Rattle.clock_nodes.proofs.Walking.{AreMarked}
use Rattle.clock_instants.proofs.roots.demand_roots.Given as goal

abbrev pub invariant-loop-i : goal.invariant-loop-i
invariant-loop-i l = record {
  high : l.i ≤ length l.scene.clocks.now;
  own : l.i < length l.scene.clocks.now → lies_at l.scene.clocks.now l.fn.clock l.i ≡ true;
  marked : AreMarked l.scene.clocks.now l.fn.clock l.own l.demanded l.i;
}

abbrev pub decreases-loop-i : goal.decreases-loop-i
decreases-loop-i l = length l.scene.clocks.now - l.i
