use Rattle.std.proofs.Common.{◌≡◌, ◌<◌, ◌≤◌, ◌-◌, ℕ, List, true, false, length, slice_get, get_or}
use Rattle.clock_infer.specs.declared.clock_map.NodeClock.TheVariants.{Main}
use Rattle.frame_core.specs.Slots.{Slot}
use Rattle.stream_meaning.specs.Instants.{Setting, Moment, parts_upto, same_clock}
use Rattle.node_states.specs.States.{AreLong}
use Rattle.clock_nodes.specs.Nodes.{lies_at}
use Rattle.clock_nodes.specs.Scenes.{setting_over}
use Rattle.clock_nodes.specs.States.{AllFit, AreSettled, ClockStands}
use Rattle.clock_nodes.proofs.Going.{IsGoneOn}
use Rattle.clock_nodes.proofs.advance.advance_all.Given as goal

abbrev pub invariant-loop-i : goal.invariant-loop-i
invariant-loop-i l = record {
  high : l.i ≤ length l.scene.clocks.now;
  own : l.i < length l.scene.clocks.now → lies_at l.scene.clocks.now l.fn.clock l.i ≡ true;
  fit : AllFit l.scene l.states;
  others : (k : ℕ) → same_clock (get_or l.scene.clocks.now k (Main 0)) l.fn.clock ≡ false → slice_get l.states k ≡ slice_get l.initial.states k;
  left : (k : ℕ) → l.i ≤ k → slice_get l.states k ≡ slice_get l.initial.states k;
  done : (other : Setting) (sub : ℕ → ℕ → List Slot) (past : List Moment) (moment : Moment) (filled : ℕ → ℕ) →
      let setting = setting_over l.scene other in
      AreLong sub → ClockStands setting sub l.fn.clock past filled l.initial.states → AreSettled setting sub l.fn.clock past filled →
      l.parts ≡ parts_upto setting sub l.fn.clock past (length l.scene.plan.now.nodes) → moment.parts ≡ l.parts → moment.demands ≡ l.demanded →
      IsGoneOn setting sub l.fn.clock past moment filled l.i l.states;
}

abbrev pub decreases-loop-i : goal.decreases-loop-i
decreases-loop-i l = length l.scene.clocks.now - l.i
