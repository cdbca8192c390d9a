-- What the states of a clock's nodes stand for.
use Rattle.std.specs.Prelude.{◌≡◌, ◌<◌, ◌≤◌, ℕ, Bool, true, false, List, Some, length, slice_get, slice_index_or}
use Rattle.plan_core.specs.declared.node.Node.{Node}
use Rattle.plan_core.specs.declared.plan.Plan.{Plan}
use Rattle.clock_infer.specs.declared.clock_map.NodeClock.{NodeClock}
use Rattle.frame_core.specs.Slots.{Slot}
use Rattle.stream_meaning.specs.Instants.{Setting, Moment, lies_in, is_root, work_at}
use Rattle.node_states.specs.declared.state.NodeState.{NodeState}
use Rattle.node_states.specs.States.{Fits, IsSettled, StateStands}
use Rattle.clock_nodes.specs.declared.scene.Scene.{Scene}

-- this is node i of the plan, and it lies in this clock
pub record IsIn (setting : Setting) (clock : NodeClock) (i : ℕ) (node : Node) : Type 0 where
  pub there : slice_get setting.plan.nodes i ≡ Some node
  pub inside : lies_in setting clock i ≡ true

-- The states of a clock's nodes are those after these instants of it, the latest first. `filled i` is how many slots of
-- its child crossfade i was given, or how many instants reader i has begun; `sub k m` are the first m slots of the
-- child of crossfade k.
pub record ClockStands (setting : Setting) (sub : ℕ → ℕ
    → List Slot) (clock : NodeClock) (past : List Moment) (filled : ℕ → ℕ)
    (states : List NodeState) : Type 0 where
  pub each : (i : ℕ) (node : Node) (state : NodeState) → IsIn setting clock i node → slice_get states i ≡ Some state
      → StateStands setting sub past (filled i) i (work_at setting i node) state

-- Each node of a clock can make the instant after this past: its crossfades have the slots of their children that they
-- need, and its readers have begun. `filled i` is how many slots crossfade i was given, or how many instants reader i
-- has begun; `sub k m` are the first m slots of the child of crossfade k.
pub record AreSettled (setting : Setting) (sub : ℕ → ℕ → List Slot) (clock : NodeClock) (past : List Moment) (filled : ℕ
    → ℕ) : Type 0 where
  pub each : (i : ℕ) (node : Node) → IsIn setting clock i node
      → IsSettled sub past (filled i) i (work_at setting i node)

-- there is a state for each node of the scene's plan, and each is one that a node with as many children may have there
pub record AllFit (scene : Scene) (states : List NodeState) : Type 0 where
  pub size : length states ≡ length scene.plan.now.nodes
  pub each : (i : ℕ) (node : Node) (state : NodeState) → slice_get scene.plan.now.nodes i ≡ Some node
      → slice_get states i ≡ Some state → Fits scene.library.now (length node.children) state

-- `room` is at least the number of children of any node of the plan
pub record HasRoomFor (plan : Plan) (room : ℕ) : Type 0 where
  pub each : (i : ℕ) (node : Node) → slice_get plan.nodes i ≡ Some node → length node.children ≤ room

-- `own` says of each node of a clock whether it is demanded of itself, that is, by an output, a feed or a crossfade
pub record AreRoots (setting : Setting) (clock : NodeClock) (own : List Bool) : Type 0 where
  pub each : (i : ℕ) → i < length setting.plan.nodes → lies_in setting clock i ≡ true
      → slice_index_or own i false ≡ is_root setting clock i
