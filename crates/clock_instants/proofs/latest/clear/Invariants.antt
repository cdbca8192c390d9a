use Rattle.std.proofs.Common.{◌≡◌, ◌<◌, ◌≤◌, ◌-◌, true, false, length}
use Rattle.stream_meaning.specs.Instants.{silent}
use Rattle.clock_nodes.specs.Nodes.{lies_at}
use Rattle.clock_nodes.proofs.Walking.{AreCleared}
use Rattle.clock_instants.proofs.latest.clear.Given as goal

abbrev pub invariant-loop-i : goal.invariant-loop-i
invariant-loop-i l = record {
  high : l.i ≤ length l.scene.clocks.now;
  own : l.i < length l.scene.clocks.now → lies_at l.scene.clocks.now l.fn.clock l.i ≡ true;
  parts : AreCleared l.scene.clocks.now l.fn.clock silent l.parts l.i;
  demanded : AreCleared l.scene.clocks.now l.fn.clock false l.demanded l.i;
}

abbrev pub decreases-loop-i : goal.decreases-loop-i
decreases-loop-i l = length l.scene.clocks.now - l.i
