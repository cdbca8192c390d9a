use Rattle.std.proofs.Common.{◌≡◌, ◌<◌, ◌≤◌, ◌-◌, ℕ, List, true, false, length, slice_get}
use Rattle.frame_core.specs.Slots.{Slot}
use Rattle.stream_meaning.specs.Instants.{Setting, Moment, part_at, silent}
use Rattle.op_mix.specs.Stretches.{samples_of}
use Rattle.clock_nodes.specs.Nodes.{lies_at}
use Rattle.clock_instants.specs.Stretches.{HasLanes, IsGoing, IsSpare}
use Rattle.clock_nodes.specs.Scenes.{setting_over}
use Rattle.clock_nodes.specs.States.{AllFit}
use Rattle.clock_instants.proofs.Gone.{HaveGone}
use Rattle.clock_instants.proofs.Kept.{AreLaid}
use Rattle.clock_instants.proofs.onward.run_each.Given as goal

abbrev pub invariant-loop-i : goal.invariant-loop-i
invariant-loop-i l = record {
  high : l.i ≤ length l.scene.clocks.now;
  own : l.i < length l.scene.clocks.now → lies_at l.scene.clocks.now l.fn.clock l.i ≡ true;
  fit : AllFit l.scene l.states;
  laid : AreLaid l.scene.clocks.now l.fn.clock (part_at l.held) (λ k. silent) l.parts l.i;
  in_parts : length l.parts ≡ length l.initial.parts;
  in_left : length l.left ≡ length l.initial.left;
  in_right : length l.right ≡ length l.initial.right;
  spare : IsSpare l.spare;
  laned : (k : ℕ) → HasLanes l.initial.left l.initial.right k → HasLanes l.left l.right k;
  others : (k : ℕ) → lies_at l.scene.clocks.now l.fn.clock k ≡ false → slice_get l.states k ≡ slice_get l.initial.states k;
  stayed : (k : ℕ) → l.i ≤ k → slice_get l.states k ≡ slice_get l.initial.states k;
  left_kept : (k : ℕ) → lies_at l.scene.clocks.now l.fn.clock k ≡ false → samples_of l.left k l.many ≡ samples_of l.initial.left k l.many;
  right_kept : (k : ℕ) → lies_at l.scene.clocks.now l.fn.clock k ≡ false → samples_of l.right k l.many ≡ samples_of l.initial.right k l.many;
  done : (other : Setting) (sub : ℕ → ℕ → List Slot) (past : List Moment) (filled : ℕ → ℕ) →
      let setting = setting_over l.scene other in
      IsGoing setting sub l.fn.clock past l.many filled l.held l.initial.states l.initial.left l.initial.right →
      HaveGone setting sub l.fn.clock past l.many filled l.initial.states l.i l.left l.right l.states;
}

abbrev pub decreases-loop-i : goal.decreases-loop-i
decreases-loop-i l = length l.scene.clocks.now - l.i
