use Rattle.std.proofs.Common.{◌≡◌, ◌<◌, ◌≤◌, ◌-◌, false, true, length, get_or}
use Rattle.stream_meaning.specs.Instants.{part_at}
use Rattle.clock_instants.specs.Held.{given_by}
use Rattle.clock_nodes.specs.Nodes.{lies_at}
use Rattle.clock_instants.proofs.Kept.{AreLaid}
use Rattle.clock_instants.proofs.holding.hold.Given as goal

abbrev pub invariant-loop-i : goal.invariant-loop-i
invariant-loop-i l = record {
  high : l.i ≤ length l.scene.clocks.now;
  own : l.i < length l.scene.clocks.now → lies_at l.scene.clocks.now l.fn.clock l.i ≡ true;
  laid : AreLaid l.scene.clocks.now l.fn.clock (λ k. given_by (get_or l.demanded k false) (part_at l.parts k)) (λ k. part_at l.initial.held k) l.held l.i;
}

abbrev pub decreases-loop-i : goal.decreases-loop-i
decreases-loop-i l = length l.scene.clocks.now - l.i
