use Rattle.std.proofs.Common.{◌≡◌, ◌<◌, ◌≤◌, ◌+◌, ◌-◌, ◌*◌, ℕ, true, length}
use Rattle.clock_infer.specs.declared.clock_map.NodeClock.{NodeClock}
use Rattle.clock_nodes.specs.Nodes.{lies_at}
use Rattle.nested_instants.specs.Clocks.{AreClockStates, HasRanks, is_none, is_upto}
use Rattle.nested_instants.specs.Stretches.{AreAbove, AreSamplesLeft, SubClocksMade}
use Rattle.nested_instants.proofs.onward.+onward.Given as goal

abbrev pub decreases-run_sub : goal.decreases-run_sub
decreases-run_sub l = 3 * l.levels

abbrev pub decreases-run_subs : goal.decreases-run_subs
decreases-run_subs l = 3 * l.levels + 1

abbrev pub decreases-run_clock : goal.decreases-run_clock
decreases-run_clock l = 3 * l.levels + 2

abbrev pub invariant-run_subs-loop-i : goal.invariant-run_subs-loop-i
invariant-run_subs-loop-i l = record {
  high : l.i ≤ length l.scene.clocks.now;
  own : l.i < length l.scene.clocks.now → lies_at l.scene.clocks.now l.fn.clock l.i ≡ true;
  clocks : AreClockStates l.scene l.clocks;
  latest : l.clocks.latest ≡ l.initial.clocks.latest;
  held : l.clocks.room.held ≡ l.initial.clocks.room.held;
  above : (rank : NodeClock → ℕ) → HasRanks l.scene.clocks.now rank
      → AreAbove l.scene.clocks.now rank (rank l.fn.clock) (is_upto l.scene.clocks.now l.fn.clock l.i) l.initial.clocks l.clocks;
  samples : (rank : NodeClock → ℕ) → HasRanks l.scene.clocks.now rank → AreSamplesLeft l.scene.clocks.now rank (rank l.fn.clock) is_none l.many l.initial.clocks l.clocks;
  run : SubClocksMade l.scene l.fn.clock l.many l.i l.initial.clocks l.clocks;
}

abbrev pub decreases-run_subs-loop-i : goal.decreases-run_subs-loop-i
decreases-run_subs-loop-i l = length l.scene.clocks.now - l.i
