-- The parts of a new engine.
use Rattle.std.specs.Prelude.{◌≡◌, ◌<◌, ◌≤◌, ◌*◌, ℕ, List, [], Some, length, slice_get}
use Rattle.plan_core.specs.declared.node.Node.{Node}
use Rattle.plan_core.specs.declared.plan.Plan.{Plan}
use Rattle.clock_infer.specs.declared.clock_map.NodeClock.{NodeClock}
use Rattle.clock_infer.specs.declared.clock_map.NodeClock.TheVariants.{Main}
use Rattle.frame_core.specs.Slots.{Slot}
use Rattle.frame_core.specs.Library.{IsLibrary, Sounds}
use Rattle.stream_meaning.specs.Instants.{Setting, work_at}
use Rattle.stream_meaning.specs.Sinks.{block_length, is_wide, kind_of}
use Rattle.node_states.specs.declared.state.NodeState.{NodeState}
use Rattle.node_states.specs.States.{Fits, StateStands}
use Rattle.clock_instants.specs.Takes.{IsUnder}
use Rattle.clock_outputs.specs.declared.port.Port.{Port}
use Rattle.clock_outputs.specs.declared.feed.FeedPort.{FeedPort}

-- The state of node i in a new engine of main clock m fits the node. If the clock drives it, the node lies in it or in
-- a sub-clock below it, and its state stands for no instant made.
pub record IsNewState (plan : Plan) (clocks : List NodeClock) (m i : ℕ) (node : Node) (state : NodeState) : Type 0 where
  pub fits : (library : Sounds) → IsLibrary library → i < length library.leaves
      → Fits library (length node.children) state
  pub stands : (setting : Setting) (sub : ℕ → ℕ → List Slot) (rank : ℕ) → IsUnder clocks (Main m) rank i
      → setting.plan ≡ plan → sub i 0 ≡ []
      → StateStands setting sub [] 0 i (work_at setting i node) state

-- the states of the first n nodes of a plan in a new engine of main clock m: they stand for no instant made
pub record AreNewStates (plan : Plan) (clocks : List NodeClock) (m n : ℕ) (states : List NodeState) : Type 0 where
  pub size : length states ≡ n
  pub each : (i : ℕ) (node : Node) (state : NodeState) → slice_get plan.nodes i ≡ Some node
      → slice_get states i ≡ Some state → IsNewState plan clocks m i node state

-- an output before the first tick: it has no gaps, and room for the bytes of a tick
pub record IsNewPort (setting : Setting) (port : Port) : Type 0 where
  pub kind : port.kind ≡ kind_of setting port.node
  pub wide : port.wide ≡ is_wide setting port.sink
  pub room : setting.plan.frame * block_length port.wide port.kind ≤ port.piece.room
  pub gaps : port.gaps ≡ 0

-- a feed before the first tick: it has room for the cells of a tick, which are `frame` many
pub record IsNewFeed (frame : ℕ) (feed : FeedPort) : Type 0 where
  pub room : frame ≤ feed.frame.room
