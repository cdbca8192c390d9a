use Rattle.std.proofs.Common.{◌≡◌, ◌<◌, ◌≤◌, ◌+◌, ◌-◌, ◌*◌, ℕ, true, length, get_or}
use Rattle.clock_infer.specs.declared.clock_map.NodeClock.{NodeClock}
use Rattle.clock_infer.specs.declared.clock_map.NodeClock.TheVariants.{Main}
use Rattle.clock_nodes.specs.Nodes.{lies_at}
use Rattle.nested_instants.specs.Clocks.{AllSettled, AreClockStates, AreLeft, HasRanks, is_in, is_node, left_at}
use Rattle.nested_instants.proofs.Settling.{NodeFilling}
use Rattle.nested_instants.proofs.clocks.+clocks.Given as goal

abbrev pub decreases-settle : goal.decreases-settle
decreases-settle g l = 3 * l.levels

abbrev pub decreases-settle_all : goal.decreases-settle_all
decreases-settle_all g l = 3 * l.levels + 1

abbrev pub decreases-make_instant : goal.decreases-make_instant
decreases-make_instant g l = 3 * l.levels + 2

abbrev pub invariant-settle-loop-clocks : goal.invariant-settle-loop-clocks
invariant-settle-loop-clocks g l = record {
  clocks : AreClockStates l.scene l.clocks;
  buffers : g.T.Taps.buffers l.taps ≡ g.T.Taps.buffers l.initial.taps;
  same : g.T.Taps.same l.initial.taps l.taps;
  left : (rank : NodeClock → ℕ) → HasRanks l.scene.clocks.now rank
      → AreLeft l.scene.clocks.now rank (rank (get_or l.scene.clocks.now l.k (Main 0))) (is_node l.k) l.initial.clocks l.clocks;
  filling : NodeFilling g.T.Taps.stands l.scene l.own l.k l.initial.clocks l.clocks l.initial.taps l.taps;
}

abbrev pub decreases-settle-loop-clocks : goal.decreases-settle-loop-clocks
decreases-settle-loop-clocks g l = left_at l.clocks.states.items l.k

abbrev pub invariant-settle_all-loop-i : goal.invariant-settle_all-loop-i
invariant-settle_all-loop-i g l = record {
  high : l.i ≤ length l.scene.clocks.now;
  own : l.i < length l.scene.clocks.now → lies_at l.scene.clocks.now l.fn.clock l.i ≡ true;
  clocks : AreClockStates l.scene l.clocks;
  buffers : g.T.Taps.buffers l.taps ≡ g.T.Taps.buffers l.initial.taps;
  same : g.T.Taps.same l.initial.taps l.taps;
  left : (rank : NodeClock → ℕ) → HasRanks l.scene.clocks.now rank
      → AreLeft l.scene.clocks.now rank (rank l.fn.clock) (is_in l.scene.clocks.now l.fn.clock) l.initial.clocks l.clocks;
  settled : AllSettled g.T.Taps.stands l.scene l.own l.fn.clock l.i l.initial.clocks l.clocks l.initial.taps l.taps;
}

abbrev pub decreases-settle_all-loop-i : goal.decreases-settle_all-loop-i
decreases-settle_all-loop-i g l = length l.scene.clocks.now - l.i
