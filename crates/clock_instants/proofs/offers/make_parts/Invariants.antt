use Rattle.std.proofs.Common.{◌≡◌, ◌<◌, ◌≤◌, ◌-◌, ℕ, List, true, false, length, take}
use Rattle.frame_core.specs.Slots.{Slot}
use Rattle.stream_meaning.specs.Instants.{Setting, Moment, part_at, parts_upto, second_at, silent}
use Rattle.node_states.specs.States.{AreLong}
use Rattle.clock_nodes.specs.Nodes.{lies_at}
use Rattle.clock_nodes.specs.Scenes.{setting_over}
use Rattle.clock_nodes.specs.States.{AreSettled, ClockStands}
use Rattle.clock_instants.proofs.offers.make_parts.Given as goal

abbrev pub invariant-loop-i : goal.invariant-loop-i
invariant-loop-i l = record {
  high : l.i ≤ length l.scene.clocks.now;
  own : l.i < length l.scene.clocks.now → lies_at l.scene.clocks.now l.fn.clock l.i ≡ true;
  room : l.desk ≡ l.initial.desk;
  others : (j : ℕ) → lies_at l.scene.clocks.now l.fn.clock j ≡ false → part_at l.parts j ≡ silent;
  made : (other : Setting) (sub : ℕ → ℕ → List Slot) (past : List Moment) (filled : ℕ → ℕ) →
      let setting = setting_over l.scene other in
      l.at.second ≡ second_at setting (length past) → AreLong sub → ClockStands setting sub l.fn.clock past filled l.states →
      AreSettled setting sub l.fn.clock past filled →
      take l.i l.parts ≡ parts_upto setting sub l.fn.clock past l.i;
}

abbrev pub decreases-loop-i : goal.decreases-loop-i
decreases-loop-i l = length l.scene.clocks.now - l.i
