-- What the nodes gave at the latest instants of their own clocks, and how far sub-clocks go on.
use Rattle.std.specs.Prelude.{◌≡◌, ◌<◌, ◌+◌, ◌≤◌, ◌&&◌, Bool, true, false, Some, List, ℕ, suc, is_some, length, slice_get, slice_index_or, if◌then◌else◌}
use Rattle.std.specs.Option.{option_map_or}
use Rattle.plan_core.specs.declared.node.Node.{Node}
use Rattle.clock_infer.specs.declared.clock_map.NodeClock.{NodeClock}
use Rattle.frame_core.specs.Slots.{Slot, title_of}
use Rattle.op_cross.specs.Runs.{run_of}
use Rattle.stream_meaning.specs.declared.part.Part.{Part}
use Rattle.stream_meaning.specs.Operators.{Fades}
use Rattle.stream_meaning.specs.Instants.{Setting, Moment, crossfaded, gives, lies_in, moment_after, part_at, position, silent, work_at}
use Rattle.stretch_laws.specs.Stretches.{AreFilled, IsNode}
use Rattle.op_mix.specs.Stretches.{Lanes, samples_of}
use Rattle.node_states.specs.declared.state.NodeState.{NodeState}
use Rattle.node_states.specs.Passing.{LaneFills, asked, given_part, passes}
use Rattle.clock_nodes.specs.declared.scene.Scene.{Scene}
use Rattle.clock_nodes.specs.Nodes.{lies_at}

-- what a node gave at an instant at which it did this part, a slot and the child that it picked: the part itself if it
-- was demanded and offered a cell, and otherwise silence
abbrev pub given_by : (demanded : Bool) → Part → Part
given_by demanded part = if demanded && is_some part.slot then part else silent

-- whether node i gave a cell at the latest instant of its clock; `held` has what each node gave there
abbrev pub gave_at : List Part → ℕ → Bool
gave_at held i = is_some (part_at held i).slot

-- whether node i is a crossfade through which its child's cells pass one for one: it holds one overlap of a track,
-- and each cell more settles one item that it plays
abbrev pub passes_at : List NodeState → ℕ → Bool
passes_at states i = option_map_or passes (slice_get states i) false

-- whether node i gave at this instant, and is a crossfade through which its child's cells pass one for one
abbrev pub goes_through : Moment → List NodeState → ℕ → Bool
goes_through moment states i = gives moment i && passes_at states i

-- `held` has what each node of a clock gave at the instant after this past: its part, or silence where it gave nothing
pub record IsHeld (setting : Setting) (sub : ℕ → ℕ
    → List Slot) (clock : NodeClock) (past : List Moment) (held : List Part) : Type 0 where
  pub each : (i : ℕ) → i < length setting.plan.nodes → lies_in setting clock i ≡ true
      → part_at held i ≡ given_part (moment_after setting sub clock past) i

-- Crossfades that gave at the instant after `past`, and through which a child's cells pass one for one, get cells of
-- one track for as many instants more as `rests` has by node. `filled` counts by node the slots that they got before.
-- `held` has what nodes gave: here it tells the title of each crossfade's child.
pub record AreFilledOn (setting : Setting) (sub : ℕ → ℕ
    → List Slot) (clock : NodeClock) (past : List Moment) (filled : ℕ → ℕ) (held : List Part) (states : List NodeState)
    (rests : List ℕ) : Type 0 where
  pub each : (k : ℕ) (node : Node) (state : NodeState) → IsNode setting clock k node → slice_get states k ≡ Some state
      → gives (moment_after setting sub clock past) k ≡ true → passes state ≡ true
      → AreFilled setting sub k (filled k) (slice_index_or rests k 0)
      (title_of (part_at held (crossfaded setting.plan.nodes k)).slot)

-- Each crossfade of a clock that gave, and through which its child's cells pass one for one, gets such cells for at
-- least `count` instants more: `rests` has by node for how many. `held` has what each node gave at the latest instant.
-- `scene` is the plan with its files and clocks.
pub record AllPassOn (scene : Scene) (clock : NodeClock) (held : List Part) (states : List NodeState) (rests : List ℕ)
    (count : ℕ) : Type 0 where
  pub each : (i : ℕ) (state : NodeState) → i < length scene.clocks.now → lies_at scene.clocks.now clock i ≡ true
      → slice_get states i ≡ Some state → gave_at held i ≡ true → passes state ≡ true
      → count ≤ slice_index_or rests i 0

-- How many slots the crossfades of a clock with numbers less than `below`, that gave at the instant after `past`, ask
-- for in each of the next `count` instants: one if a child's cells pass through one for one, else none. `filled` has by
-- node how many they got before.
pub record AllAsk (setting : Setting) (sub : ℕ → ℕ → List Slot) (clock : NodeClock) (past : List Moment) (filled : ℕ
    → ℕ) (states : List NodeState)
    (below count : ℕ) : Type 0 where
  pub each : (k overlap j : ℕ) (node : Node) (state : NodeState) → k < below → IsNode setting clock k node
      → work_at setting k node ≡ Fades overlap
      → slice_get states k ≡ Some state → gives (moment_after setting sub clock past) k ≡ true → j < count
      → run_of overlap (sub k) (suc (position past k) + j) ≡ filled k + asked (passes state) j

-- Crossfades that gave at the instant after `past`, and through which a child's cells pass one for one, have the
-- child's samples for `many` instants, in `left` and `right` by node. `filled` counts by node the slots that they got
-- before. `held` has what nodes gave: here it tells the children's titles.
pub record AreSupplied (setting : Setting) (sub : ℕ → ℕ
    → List Slot) (clock : NodeClock) (past : List Moment) (many : ℕ) (filled : ℕ → ℕ)
    (held : List Part) (states : List NodeState) (left right : Lanes) : Type 0 where
  pub each : (k : ℕ) (node : Node) (state : NodeState) → IsNode setting clock k node → slice_get states k ≡ Some state
      → gives (moment_after setting sub clock past) k ≡ true → passes state ≡ true
      → LaneFills (sub k) (filled k) many (title_of (part_at held (crossfaded setting.plan.nodes k)).slot)
      (samples_of left (crossfaded setting.plan.nodes k) many) (samples_of right (crossfaded setting.plan.nodes k) many)
  -- these children lie in other clocks
  pub apart : (k : ℕ) (node : Node) (state : NodeState) → IsNode setting clock k node → slice_get states k ≡ Some state
      → gives (moment_after setting sub clock past) k ≡ true → passes state ≡ true
      → lies_in setting clock (crossfaded setting.plan.nodes k) ≡ false
