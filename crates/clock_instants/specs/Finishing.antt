-- An instant of a clock whose crossfades are settled.
use Rattle.std.specs.Prelude.{◌≡◌, ℕ, Bool, List, ◌∷◌, length}
use Rattle.clock_infer.specs.declared.clock_map.NodeClock.{NodeClock}
use Rattle.frame_core.specs.Slots.{Slot}
use Rattle.stream_meaning.specs.declared.part.Part.{Part}
use Rattle.stream_meaning.specs.Instants.{Setting, Moment, moment_after, second_at}
use Rattle.node_states.specs.declared.state.NodeState.{NodeState}
use Rattle.node_states.specs.States.{AreLong}
use Rattle.clock_nodes.specs.declared.scene.Scene.{Scene}
use Rattle.clock_nodes.specs.declared.nodes.ClockNodes.{ClockNodes}
use Rattle.clock_nodes.specs.Nodes.{AreNodesOf}
use Rattle.clock_instants.specs.declared.latest.Latest.{Latest}
use Rattle.clock_instants.specs.Instants.{IsLatest}
use Rattle.clock_instants.specs.Held.{IsHeld}
use Rattle.clock_nodes.specs.Scenes.{IsScene, setting_over}
use Rattle.clock_nodes.specs.States.{AllFit, AreRoots, AreSettled, ClockStands, HasRoomFor}

-- What the program needs to make an instant after the latest one, `before`: states that fit the nodes, and room for the
-- `most` children that a node may have. `over` is the plan with its files and clocks, and `nodes` lists the clock's
-- nodes. `own` says by node whether it is demanded of itself, `held` what it gave last.
pub record CanMakeNext (over : Scene) (nodes : ClockNodes) (own : List Bool) (before : Latest) (states : List NodeState)
    (held : List Part) (most : ℕ) : Type 0 where
  pub scene : IsScene over
  pub chains : AreNodesOf over.clocks.now nodes
  pub in_own : length own ≡ length over.plan.now.nodes
  pub latest : IsLatest over.clocks.now before
  pub fit : AllFit over states
  pub room : HasRoomFor over.plan.now most
  pub in_held : length held ≡ length over.plan.now.nodes

-- The states are ready for the instant after this past, in this second: they stand for the past, and each crossfade
-- and reader of the clock has what it plays next. `filled` counts by node the slots that a crossfade got and the
-- instants that a reader began; `own` says which nodes are demanded of themselves.
pub record CanFinish (setting : Setting) (sub : ℕ → ℕ → List Slot) (clock : NodeClock) (past : List Moment) (filled : ℕ
    → ℕ)
    (own : List Bool) (second : ℕ) (states : List NodeState) : Type 0 where
  pub at : second ≡ second_at setting (length past)
  pub long : AreLong sub
  pub stands : ClockStands setting sub clock past filled states
  pub settled : AreSettled setting sub clock past filled
  pub roots : AreRoots setting clock own

-- The program has made the instant after `past`: `parts` has what its nodes do there, `held` what they gave, and the
-- states stand for it too. `filled` counts by node the slots that a crossfade got and the instants that a reader began.
pub record HasFinished (setting : Setting) (sub : ℕ → ℕ
    → List Slot) (clock : NodeClock) (past : List Moment) (filled : ℕ → ℕ)
    (states : List NodeState) (parts held : List Part) : Type 0 where
  pub parts_are : parts ≡ (moment_after setting sub clock past).parts
  pub held_are : IsHeld setting sub clock past held
  pub stands : ClockStands setting sub clock (moment_after setting sub clock past ∷ past) filled states

-- The program made one instant of a clock in this second: for every past for which the states `old` stood, `new` stand
-- for one instant more, with its `parts` and with `held`, what nodes gave. `own` says by node whether it is demanded of
-- itself. `scene` is the plan with its files and clocks.
pub record InstantFinished (scene : Scene) (own : List Bool) (clock : NodeClock) (second : ℕ) (old new : List NodeState)
    (parts held : List Part) : Type 0 where
  pub made : (other : Setting) (sub : ℕ → ℕ → List Slot) (past : List Moment) (filled : ℕ → ℕ) →
      let setting = setting_over scene other in
      CanFinish setting sub clock past filled own second old → HasFinished setting sub clock past filled new parts held
