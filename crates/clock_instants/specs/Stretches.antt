-- Instants that go on as the latest one of a clock did, made at once.
use Rattle.std.specs.Prelude.{◌≡◌, ◌<◌, ◌≤◌, ◌&&◌, ◌||◌, Bool, true, Some, List, ◌∷◌, ℕ, ℤ, suc, is_some, length, slice_get}
use Rattle.plan_core.specs.declared.node.Node.{Node}
use Rattle.clock_infer.specs.declared.clock_map.NodeClock.{NodeClock}
use Rattle.frame_core.specs.Slots.{Slot, title_of}
use Rattle.op_leaf.specs.Lanes.{IsLane}
use Rattle.stream_meaning.specs.declared.part.Part.{Part}
use Rattle.stream_meaning.specs.Instants.{Setting, Moment, crossfaded, gives, lies_in, moment_after, part_at, silent, work_at}
use Rattle.stretch_laws.specs.Stretches.{IsNode, IsStretch, going_on, lane}
use Rattle.op_mix.specs.Stretches.{HasLane, Lanes, samples_of}
use Rattle.node_states.specs.declared.state.NodeState.{NodeState}
use Rattle.node_states.specs.declared.state.NodeState.TheVariants.{Idle}
use Rattle.node_states.specs.declared.time.WeekTime.{WeekTime}
use Rattle.node_states.specs.Passing.{LaneFills, given_part, passes}
use Rattle.node_states.specs.Stretches.{LiesAhead, filled_on}
use Rattle.node_states.specs.States.{AreLong, Fits, reads, reads_at}
use Rattle.node_states.specs.Times.{TimeStands}
use Rattle.clock_instants.specs.declared.stretch_room.StretchRoom.{StretchRoom}
use Rattle.clock_instants.specs.declared.stretch_room.Spare.{Spare}
use Rattle.clock_nodes.specs.declared.scene.Scene.{Scene}
use Rattle.clock_nodes.specs.declared.nodes.ClockNodes.{ClockNodes}
use Rattle.clock_instants.specs.Held.{AllAsk, AreFilledOn, AreSupplied, IsHeld, gave_at, goes_through}
use Rattle.node_states.specs.Histories.{History, IsLaneOf, StandsOn, history_of, next_of}
use Rattle.clock_instants.specs.Sides.{Sides}
use Rattle.clock_nodes.specs.Nodes.{AreNodesOf, lies_at}
use Rattle.clock_instants.specs.Resting.{AreReadTo}
use Rattle.clock_nodes.specs.Scenes.{IsScene, setting_over}
use Rattle.clock_nodes.specs.States.{AllFit, ClockStands}

-- node i has a list for its samples on each side, with room for a stretch, the instants that are made at once; `left`
-- and `right` have a list for each node
pub record HasLanes (left right : Lanes) (i : ℕ) : Type 0 where
  pub on_left : HasLane left i
  pub on_right : HasLane right i

-- the spare room of each side, in which a node's samples are made, holds any stretch: at most 2048 instants at once
pub record IsSpare (spare : Spare) : Type 0 where
  pub on_left : 2048 ≤ length spare.left.items
  pub on_right : 2048 ≤ length spare.right.items

-- `room`, the memory in which stretches (instants made at once) are made, has a place for each of so many nodes, and
-- spare room for the samples of one. Between two stretches each node's part in it is silent.
pub record HasStretchRoom (nodes : ℕ) (room : StretchRoom) : Type 0 where
  pub in_left : length room.left.items ≡ nodes
  pub in_right : length room.right.items ≡ nodes
  pub in_spare : IsSpare room.spare
  pub in_held : length room.held.items ≡ nodes
  pub in_rests : length room.rests.items ≡ nodes
  pub in_parts : length room.parts.items ≡ nodes
  pub clear : (j : ℕ) → part_at room.parts.items j ≡ silent

-- of the first `count` nodes each has a lane, its list of samples, with room for any stretch unless its state is idle
pub record HaveLanes (states : List NodeState) (count : ℕ) (lanes : Lanes) : Type 0 where
  pub size : length lanes ≡ count
  pub each : (i : ℕ) (state : NodeState) → i < count → slice_get states i ≡ Some state → (state ≡ Idle → ⊥)
      → HasLane lanes i

-- Each node of a clock that gave can play `count` instants more from what it has: its next cells or items are there,
-- and none begins a track. `held` has what each node gave at the latest instant. A crossfade through which its child's
-- cells pass one for one gets them from the child. `scene` is the plan with its files and clocks.
pub record AllLieAhead (scene : Scene) (clock : NodeClock) (held : List Part) (states : List NodeState)
    (count : ℕ) : Type 0 where
  pub each : (i : ℕ) (state : NodeState) → i < length scene.clocks.now → lies_at scene.clocks.now clock i ≡ true
      → slice_get states i ≡ Some state → gave_at held i ≡ true → LiesAhead scene.library.now state count

-- The program stands behind the instant that follows `past`, the instants before it: `parts` is what nodes do there,
-- `held` what they gave, `time` when it is, and `states` stand for it. `filled` counts by node the slots that a
-- crossfade got and the instants that a reader began. Sub-clocks go on for as many instants as `rests` has by node.
pub record IsBehind (setting : Setting) (sub : ℕ → ℕ → List Slot) (clock : NodeClock) (past : List Moment) (filled : ℕ
    → ℕ) (time : WeekTime)
    (parts held : List Part) (states : List NodeState) (rests : List ℕ) : Type 0 where
  pub long : AreLong sub
  pub stands : ClockStands setting sub clock (moment_after setting sub clock past ∷ past) filled states
  pub parts_are : parts ≡ (moment_after setting sub clock past).parts
  pub held_are : IsHeld setting sub clock past held
  pub begun : AreReadTo setting clock filled (suc (length past))
  pub time_is : TimeStands setting.start (length past) time
  pub filled_on : AreFilledOn setting sub clock past filled held states rests

-- A clock can make `rest` instants at once behind its latest one, at `time`, at which nodes did `parts` and gave
-- `held`: they are a stretch with it, and differ in their samples alone. This holds for every past that `states` stand
-- for. By `rests`, sub-clocks go on long enough: a crossfade asks in each for one slot where cells pass, else for none.
pub record ClockGoesOn (scene : Scene) (clock : NodeClock) (time : WeekTime) (parts held : List Part)
    (states : List NodeState) (rests : List ℕ)
    (rest : ℕ) : Type 0 where
  pub stretch : (other : Setting) (sub : ℕ → ℕ → List Slot) (past : List Moment) (filled : ℕ → ℕ) →
      let setting = setting_over scene other in
      IsBehind setting sub clock past filled time parts held states rests → IsStretch setting sub clock past (suc rest)
  pub asks : (other : Setting) (sub : ℕ → ℕ → List Slot) (past : List Moment) (filled : ℕ → ℕ) →
      let setting = setting_over scene other in
      IsBehind setting sub clock past filled time parts held states rests
      → AllAsk setting sub clock past filled states (length scene.clocks.now) rest

-- A clock is about to make `many` instants at once, behind the one that follows `past` and at which `held` was given.
-- They are a stretch with it, and each node has room in `left` and `right`, the samples by node. A crossfade through
-- which cells pass has its child's samples. `filled` counts the slots that a crossfade got and the instants that a
-- reader began.
pub record IsGoing (setting : Setting) (sub : ℕ → ℕ
    → List Slot) (clock : NodeClock) (past : List Moment) (many : ℕ) (filled : ℕ → ℕ)
    (held : List Part) (states : List NodeState) (left right : Lanes) : Type 0 where
  pub long : AreLong sub
  pub stretch : IsStretch setting sub clock past (suc many)
  pub stands : ClockStands setting sub clock (moment_after setting sub clock past ∷ past) filled states
  pub held_are : IsHeld setting sub clock past held
  pub begun : AreReadTo setting clock filled (suc (length past))
  pub laned : (i : ℕ) (node : Node) → IsNode setting clock i node → HasLanes left right i
  pub supplied : AreSupplied setting sub clock past many filled held states left right

-- How many slots node i has got as a crossfade, or instants it has begun as a reader, after `many` instants more of a
-- clock; `filled` has by node how many before. Readers of the clock, and crossfades through which cells pass
-- (`through`), have `many` more; other nodes have no more.
abbrev pub begun_on : Setting → NodeClock → (through : ℕ → Bool) → (many : ℕ) → (filled : ℕ → ℕ) → ℕ → ℕ
begun_on setting clock through many filled i = filled_on (lies_in setting clock i
    && (through i || reads_at setting i)) many (filled i)

-- A clock has made `many` instants at once, behind the one that follows `past`. The states, which were `old`, stand for
-- these too, and each node that gives has left its samples in `left` and `right`. `filled` counts by node the slots
-- that a crossfade had got, and the instants that a reader had begun.
pub record HasGoneOn (setting : Setting) (sub : ℕ → ℕ
    → List Slot) (clock : NodeClock) (past : List Moment) (many : ℕ) (filled : ℕ → ℕ)
    (old : List NodeState) (left right : Lanes) (states : List NodeState) : Type 0 where
  pub stands : ClockStands setting sub clock (going_on setting sub clock (suc many) past)
      (begun_on setting clock (goes_through (moment_after setting sub clock past) old) many filled) states
  pub lanes : (i : ℕ) → gives (moment_after setting sub clock past) i ≡ true
      → IsLane (λ j. lane setting sub clock past (suc j) i) many (samples_of left i many) (samples_of right i many)

-- Crossfade k, which has got `filled` slots of its child, has the child's samples for `many` instants more in `sides`.
-- `held` has what each node gave at the latest instant: here it tells the child's title. `history` is a clock with its
-- instants so far.
abbrev pub IsSupplied : History → (many filled k : ℕ) → (held : List Part) → Sides Lanes → Type 0
IsSupplied history many filled k held sides =
    let child = crossfaded history.setting.plan.nodes k in
    LaneFills (history.sub k) filled many (title_of (part_at held child).slot)
    (samples_of sides.left child many) (samples_of sides.right child many)

-- in `sides`, the samples of all nodes on the left and on the right, node k has those that it plays in the `many`
-- instants after the next one of this history, the instants that its clock made so far
abbrev pub HasMadeLane : History → (many k : ℕ) → Sides Lanes → Type 0
HasMadeLane history many k sides = IsLaneOf history k many
    (samples_of sides.left k many) (samples_of sides.right k many)

-- What node i needs to make the `many` instants after the next one of `history`, the instants of its clock so far. Its
-- state stands for the next one, `parts` has what nodes up to it gave and `held` what all gave, and earlier nodes left
-- their samples in `sides`. `filled` is how many slots it got as a crossfade, or instants it began as a reader.
pub record NodeGivesOn (history : History) (many filled i : ℕ) (node : Node) (held parts : List Part)
    (sides : Sides Lanes) (state : NodeState) : Type 0 where
  pub long : AreLong history.sub
  pub stretch : IsStretch history.setting history.sub history.clock history.past (suc many)
  pub is : IsNode history.setting history.clock i node
  pub laned : HasLanes sides.left sides.right i
  pub given : (k : ℕ) → k ≤ i → part_at parts k ≡ given_part (next_of history) k
  pub begun : reads (work_at history.setting i node) ≡ true → filled ≡ suc (length history.past)
  pub stands : StandsOn history 1 filled i node state
  pub lanes : (k : ℕ) → k < i → gives (next_of history) k ≡ true → HasMadeLane history many k sides
  pub supplied : gives (next_of history) i ≡ true → passes state ≡ true → IsSupplied history many filled i held sides

-- Node i has made the `many` instants after the next one of `history`, the instants of its clock so far. Its state,
-- which was `old`, stands for these too, and if it gives, its samples are in `sides`. `filled` is how many slots it had
-- got as a crossfade, or instants it had begun as a reader.
pub record NodeHasGone (history : History) (many filled i : ℕ) (node : Node) (old : NodeState) (sides : Sides Lanes)
    (state : NodeState) : Type 0 where
  pub stands : StandsOn history (suc many) (filled_on ((gives (next_of history) i && passes old)
      || reads (work_at history.setting i node)) many filled) i node state
  pub lane_is : gives (next_of history) i ≡ true → HasMadeLane history many i sides

-- Node i, which gives, has made the `many` instants after the next one of `history`, the instants of its clock so far.
-- Its samples on both sides are `samples`, and its state, which was `old`, stands for these too. `filled` is how many
-- slots it had got as a crossfade, or instants it had begun as a reader.
pub record NodeHasMade (history : History) (many filled i : ℕ) (node : Node) (old : NodeState)
    (samples : Sides (List ℤ)) (state : NodeState) : Type 0 where
  pub gave : gives (next_of history) i ≡ true
  pub stands : StandsOn history (suc many) (filled_on (passes old
      || reads (work_at history.setting i node)) many filled) i node state
  pub lane_is : IsLaneOf history i many samples.left samples.right

-- a number of instants that may be made at once: at least 1, and at most 2048, the longest stretch
pub record AreAtOnce (many : ℕ) : Type 0 where
  pub some : 0 < many
  pub short : many ≤ 2048

-- the first `many` samples of node i, in `left` and `right`, are the same as in `left_old` and `right_old`, the samples
-- of all nodes before
pub record HasKeptSamples (left_old right_old left right : Lanes) (many i : ℕ) : Type 0 where
  pub on_left : samples_of left i many ≡ samples_of left_old i many
  pub on_right : samples_of right i many ≡ samples_of right_old i many

-- There is room to make a stretch of so many nodes: in `held` a place for what each gave, in `parts` a silent part for
-- each, in `left` and `right` a list for its samples. `spare` has room in which a node's samples are made.
pub record HasRoomToRun (nodes : ℕ) (held parts : List Part) (left right : Lanes) (spare : Spare) : Type 0 where
  pub in_held : length held ≡ nodes
  pub in_parts : length parts ≡ nodes
  pub clear : (j : ℕ) → part_at parts j ≡ silent
  pub in_left : length left ≡ nodes
  pub in_right : length right ≡ nodes
  pub in_spare : IsSpare spare

-- The nodes of a clock, which `nodes` lists, can make `count` instants at once that go on as its latest one, at which
-- `held` was given. `over` is the plan with its files and clocks; the states fit it, and all that the nodes play is
-- there.
pub record CanRunNodes (over : Scene) (nodes : ClockNodes) (clock : NodeClock) (count : ℕ) (held : List Part)
    (states : List NodeState) : Type 0 where
  pub scene : IsScene over
  pub chains : AreNodesOf over.clocks.now nodes
  pub many : AreAtOnce count
  pub fit : AllFit over states
  pub ahead : AllLieAhead over clock held states count

-- Node i of a plan can be asked for `many` instants at once: it is there, its state fits it, and the number is no more
-- than a stretch has. `parts` has a part for each node. `over` is the plan with its files and clocks.
pub record IsNodeToRun (over : Scene) (i many : ℕ) (parts : List Part) (state : NodeState) : Type 0 where
  pub scene : IsScene over
  pub within : i < length over.plan.now.nodes
  pub in_parts : length parts ≡ length over.plan.now.nodes
  pub count : AreAtOnce many
  pub fits : (node : Node) → slice_get over.plan.now.nodes i ≡ Some node
      → Fits over.library.now (length node.children) state

-- Node i can make `many` instants at once: `left` and `right` have a list for each node's samples, and `spares` room
-- for making them. If it gave a cell by `parts`, what each node gave, its next cells or items are there.
pub record CanRunNode (scene : Scene) (i many : ℕ) (parts : List Part) (left right : Lanes) (spares : Spare)
    (state : NodeState) : Type 0 where
  pub node : IsNodeToRun scene i many parts state
  pub in_left : length left ≡ length scene.plan.now.nodes
  pub in_right : length right ≡ length scene.plan.now.nodes
  pub spare : IsSpare spares
  pub ahead : is_some (part_at parts i).slot ≡ true → LiesAhead scene.library.now state many

-- The nodes of a clock have made `many` instants at once that go on as its latest one, at which `held` was given.
-- Whatever instants the states `old` stood for, the new ones stand for so many more. `left` and `right`, which were
-- `left_old` and `right_old`, have the samples of these instants. `scene` is the plan with its files and clocks.
pub record NodesRun (scene : Scene) (clock : NodeClock) (many : ℕ) (held : List Part) (old : List NodeState)
    (left_old right_old left right : Lanes)
    (states : List NodeState) : Type 0 where
  pub run : (other : Setting) (sub : ℕ → ℕ → List Slot) (past : List Moment) (filled : ℕ → ℕ) →
      let setting = setting_over scene other in
      IsGoing setting sub clock past many filled held old left_old right_old
      → HasGoneOn setting sub clock past many filled old left right states

-- Node i has made `many` instants at once that go on as the latest one of its clock, at which nodes gave `held`, those
-- up to node i also in `parts`. Whatever instants its state `old` stood for, the new one stands for so many more. If it
-- gives, its samples are in `after`, the samples of all nodes, which were `before`. `scene` is the plan with its files
-- and clocks.
pub record NodeRun (scene : Scene) (i many : ℕ) (held parts : List Part) (old : NodeState) (before after : Sides Lanes)
    (state : NodeState) : Type 0 where
  pub run : (other : Setting) (sub : ℕ → ℕ → List Slot) (clock : NodeClock) (past : List Moment) (filled : ℕ)
      (node : Node) →
      let history = history_of (setting_over scene other) sub clock past in
      NodeGivesOn history many filled i node held parts before old
      → NodeHasGone history many filled i node old after state

-- Node i, which gave, has made `many` instants at once that go on as the latest one of its clock, with these samples.
-- At that one nodes gave `held`, those up to node i also in `parts`; `before` has the samples of all nodes. Whatever
-- instants the state `old` stood for, the new one stands for so many more. `scene` is the plan with its files.
pub record NodeMade (scene : Scene) (i many : ℕ) (held parts : List Part) (old : NodeState) (before : Sides Lanes)
    (samples : Sides (List ℤ)) (state : NodeState) : Type 0 where
  pub made : (other : Setting) (sub : ℕ → ℕ → List Slot) (clock : NodeClock) (past : List Moment) (filled : ℕ)
      (node : Node) →
      let history = history_of (setting_over scene other) sub clock past in
      NodeGivesOn history many filled i node held parts before old
      → NodeHasMade history many filled i node old samples state
