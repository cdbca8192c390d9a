-- What the states of all clocks stand for, while a clock and the sub-clocks below it make instants.
use Rattle.std.specs.Prelude.{◌≡◌, ◌<◌, ◌≤◌, ◌+◌, ℕ, suc, Bool, true, false, List, Option, Some, None, length, slice_get, slice_index_or}
use Rattle.std.specs.Option.{option_map_or}
use Rattle.plan_core.specs.declared.node.Node.{Node}
use Rattle.plan_core.specs.declared.node.Op.TheVariants.{Crossfade}
use Rattle.clock_infer.specs.declared.clock_map.NodeClock.{NodeClock}
use Rattle.clock_infer.specs.declared.clock_map.NodeClock.TheVariants.{Main, Sub}
use Rattle.frame_core.specs.Slots.{Slot}
use Rattle.frame_core.specs.Calls.{Adds, Call, Answer}
use Rattle.op_cross.specs.Runs.{run_of}
use Rattle.stream_meaning.specs.Operators.{Work, Plays, Picks, Mixes, Fades, Reads}
use Rattle.stream_meaning.specs.Instants.{Setting, Moment, IsMeaning, clock_of, crossfaded, gives, first_instants, is_root, lies_in, moment_after, part_at, position, work_at}
use Rattle.stream_meaning.specs.Calls.{GoDown, HasAnswers, IsBegin, after_calls, calls_of, fades_in, joined_between, joined_upto, ran_by, takes_at}
use Rattle.stream_meaning.specs.declared.part.Part.{Part}
use Rattle.stretch_laws.specs.Stretches.{IsStretch}
use Rattle.node_states.specs.declared.state.NodeState.{NodeState}
use Rattle.node_states.specs.declared.time.WeekTime.{WeekTime}
use Rattle.node_states.specs.States.{IsSettled, StateStands, left, reading_by, reads_at, room, wants}
use Rattle.node_states.specs.Ticks.{past_of}
use Rattle.node_states.specs.Times.{TimeStands}
use Rattle.clock_nodes.specs.declared.scene.Scene.{Scene}
use Rattle.clock_nodes.specs.Nodes.{AreNodesOf}
use Rattle.clock_instants.specs.Instants.{IsLatest}
use Rattle.clock_instants.specs.Held.{AllAsk, AllPassOn, IsHeld}
use Rattle.clock_instants.specs.Stretches.{AllLieAhead, HasLanes, HasStretchRoom}
use Rattle.clock_nodes.specs.Scenes.{IsScene, setting_over}
use Rattle.clock_nodes.specs.States.{AllFit, HasRoomFor}
use Rattle.clock_instants.specs.Takes.{HasOwnReaders, ReadersAreIn, begun_in}
use Rattle.nested_instants.specs.declared.clock_states.ClockStates.{ClockStates}

-- How far a run came. `ran` has the number of instants that each clock made. `filled` has, by node, how many slots of
-- its child a crossfade was given, or how many instants a buffer's reader began. `front` has, by buffer, the answers
-- that its reader has taken so far.
pub record Progress : Type 0 where
  pub ran : NodeClock → ℕ
  pub filled : ℕ → ℕ
  pub front : ℕ → List Answer

-- the clock that drives node i, by a list of the clocks of all nodes; main clock 0 where there is no such node
abbrev pub clock_at : List NodeClock → ℕ → NodeClock
clock_at clocks i = slice_index_or clocks i (Main 0)

-- a rank for each clock, which says how deep it nests: a sub-clock is one rank deeper than the clock of its crossfade.
-- Proofs alone use ranks: the program holds none
pub record HasRanks (clocks : List NodeClock) (rank : NodeClock → ℕ) : Type 0 where
  pub deeper : (k : ℕ) → k < length clocks → rank (Sub k) ≡ suc (rank (clock_at clocks k))

-- Below this clock, sub-clocks nest at most `levels` deep; each is the clock of a crossfade's child. `rank` says how
-- deep each clock nests.
pub record HasLevels (clocks : List NodeClock) (clock : NodeClock) (levels : ℕ) : Type 0 where
  pub rank : NodeClock → ℕ
  pub ranks : HasRanks clocks rank
  pub enough : (k : ℕ) → k < length clocks → rank (Sub k) ≤ rank clock + levels

-- node i has its lanes: the room for the left and the right samples of a stretch, of instants that are made at once
abbrev pub laned_at : ClockStates → ℕ → Type 0
laned_at all i = HasLanes all.room.left.items all.room.right.items i

-- how many further instants of the sub-clock of crossfade k are known to go on as its latest one did, so that they can
-- be made at once; 0 where none is known
abbrev pub rest_at : ClockStates → ℕ → ℕ
rest_at all k = slice_index_or all.room.rests.items k 0

-- What is kept of sub-clocks, how many further instants go on as the latest one did, is true. For so many instants all
-- nodes of the sub-clock can go on as at its latest one. So can the sub-clocks of its crossfades through which cells
-- pass.
pub record AreResting (scene : Scene) (all : ClockStates) : Type 0 where
  pub ahead : (k : ℕ) → 0 < rest_at all k
      → AllLieAhead scene (Sub k) all.room.held.items all.states.items (rest_at all k)
  pub through : (k : ℕ) → 0 < rest_at all k
      → AllPassOn scene (Sub k) all.room.held.items all.states.items all.room.rests.items (rest_at all k)

-- if this clock is the sub-clock of a crossfade, the count kept of its further instants, which go on as its latest one
-- did, is 0
pub record IsIdle (clock : NodeClock) (all : ClockStates) : Type 0 where
  pub none : (k : ℕ) → clock ≡ Sub k → rest_at all k ≡ 0

-- The states fit a scene, a plan with its files and clocks: there is a state and a time for each node, the times have
-- the plan's rate and tick length (`frame`), there is room, and what is kept of sub-clocks holds good.
pub record AreClockStates (scene : Scene) (all : ClockStates) : Type 0 where
  pub fit : AllFit scene all.states.items
  pub in_times : length all.times.items ≡ length scene.plan.now.nodes
  pub chains : AreNodesOf scene.clocks.now all.nodes
  pub latest : IsLatest scene.clocks.now all.latest
  pub room : HasRoomFor scene.plan.now all.desk
  pub stretch_room : HasStretchRoom (length scene.plan.now.nodes) all.room
  pub resting : AreResting scene all
  pub rates : (k : ℕ) (time : WeekTime) → slice_get all.times.items k ≡ Some time → time.rate ≡ scene.plan.now.rate
  pub frames : (k : ℕ) (time : WeekTime) → slice_get all.times.items k ≡ Some time → time.frame ≡ scene.plan.now.frame

-- there are states for the nodes of a scene, a plan with its files and clocks, and this time has the plan's rate and
-- its tick length (`frame`)
pub record AreStatesAt (over : Scene) (time : WeekTime) (all : ClockStates) : Type 0 where
  pub scene : IsScene over
  pub clocks : AreClockStates over all
  pub rate : time.rate ≡ over.plan.now.rate
  pub frame : time.frame ≡ over.plan.now.frame

-- A clock and the sub-clocks below it can make instants: their states fit the scene, which is a plan with its files and
-- clocks. `own` says of each node whether its own clock asks for it. Sub-clocks nest at most `most` deep below the
-- clock, and readers read buffers with numbers below `buffers`.
pub record CanMakeInstants (over : Scene) (own : List Bool) (clock : NodeClock) (most buffers : ℕ) (all : ClockStates)
    : Type 0 where
  pub scene : IsScene over
  pub in_own : length own ≡ length over.plan.now.nodes
  pub clocks : AreClockStates over all
  pub levels : HasLevels over.clocks.now clock most
  pub readers : ReadersAreIn over.plan.now buffers

-- `own` says of each node whether its own clock asks for it at each instant: a main clock for the nodes of its sinks,
-- and a sub-clock for the child of its crossfade
pub record AreOwnRoots (setting : Setting) (own : List Bool) : Type 0 where
  pub each : (i : ℕ) → i < length setting.plan.nodes
      → slice_index_or own i false ≡ is_root setting (clock_of setting i) i

-- whether node k is a crossfade that needs one more slot of its child before it knows what it plays next
abbrev pub wants_at : List NodeState → ℕ → Bool
wants_at states k = option_map_or wants (slice_get states k) false

-- a bound on how many slots of its child node k still takes until it knows what it plays next: it shows that feeding
-- ends
abbrev pub left_at : List NodeState → ℕ → ℕ
left_at states k = option_map_or left (slice_get states k) 0

-- how many cells of its child's running track node k can take at once for what it plays next; 0 where it wants none
abbrev pub room_at : List NodeState → ℕ → ℕ
room_at states k = option_map_or room (slice_get states k) 0

-- the empty set of nodes, as a test of their numbers: where no node may have changed
abbrev pub is_none : ℕ → Type 0
is_none i = ⊥

-- the set of node k alone, as a test of node numbers: where that node may have changed
abbrev pub is_node : ℕ → ℕ → Type 0
is_node k i = i ≡ k

-- the set of a clock's nodes, as a test of node numbers: where those nodes may have changed
abbrev pub is_in : List NodeClock → NodeClock → ℕ → Type 0
is_in clocks clock i = clock_at clocks i ≡ clock

-- the set of a clock's nodes with numbers less than `below`, as a test of node numbers
abbrev pub is_upto : List NodeClock → NodeClock → (below : ℕ) → ℕ → Type 0
is_upto clocks clock below i = (i < below) × (clock_at clocks i ≡ clock)

-- What a step, from the states `old` to `new`, leaves alone in clocks that nest no deeper than `level`. But for the
-- nodes `touched`, nodes keep their states and what they gave, and their sub-clocks keep their times and the counts of
-- instants that go on. `rank` says how deep a clock nests. All nodes keep their lanes.
pub record AreLeft (clocks : List NodeClock) (rank : NodeClock → ℕ) (level : ℕ) (touched : ℕ → Type 0)
    (old new : ClockStates) : Type 0 where
  pub states : (i : ℕ) → (touched i → ⊥) → rank (clock_at clocks i) ≤ level
      → slice_get new.states.items i ≡ slice_get old.states.items i
  pub times : (i : ℕ) → (touched i → ⊥) → rank (clock_at clocks i) ≤ level
      → slice_get new.times.items i ≡ slice_get old.times.items i
  pub held : (i : ℕ) → (touched i → ⊥) → rank (clock_at clocks i) ≤ level
      → part_at new.room.held.items i ≡ part_at old.room.held.items i
  pub rests : (i : ℕ) → (touched i → ⊥) → rank (clock_at clocks i) ≤ level → rest_at new i ≡ rest_at old i
  -- and each node keeps its lanes
  pub laned : (i : ℕ) → laned_at old i → laned_at new i

-- whether a node's work at an instant is that of a crossfade
abbrev pub is_fade : Work → Bool
is_fade (Plays leaf) = false
is_fade (Picks rule eligible) = false
is_fade (Mixes mixing) = false
is_fade (Fades overlap) = true
is_fade (Reads buffer) = false

-- whether node k, which is given, is a crossfade; false where there is no such node
abbrev pub fade_in : Setting → ℕ → Option Node → Bool
fade_in setting k None = false
fade_in setting k (Some node) = is_fade (work_at setting k node)

-- whether node k of a setting's plan is a crossfade; false where there is no such node
abbrev pub fade_at : Setting → ℕ → Bool
fade_at setting k = fade_in setting k (slice_get setting.plan.nodes k)

-- No clock ran further than needed, among clocks that nest at least `level` deep; `rank` says how deep a clock nests. A
-- crossfade's sub-clock made just the instants that settle what it plays at its latest instant. A reader began just the
-- instants of its clock. `sub` has the slots that each crossfade's sub-clock makes.
pub record RanAsNeeded (setting : Setting) (sub : ℕ → ℕ → List Slot) (rank : NodeClock → ℕ) (level : ℕ)
    (progress : Progress) : Type 0 where
  pub each : (k overlap : ℕ) (node : Node) → slice_get setting.plan.nodes k ≡ Some node → node.op ≡ Crossfade overlap
      → level ≤ rank (clock_of setting k)
      → progress.ran (Sub k) ≡ ran_by sub k overlap (past_of setting sub progress.ran k)
  pub begun : (i : ℕ) → reads_at setting i ≡ true → level ≤ rank (clock_of setting i)
      → progress.filled i ≡ progress.ran (clock_of setting i)

-- `rest` instants of a clock go on as the one after this past did, at which its nodes gave `held`. In each of them a
-- crossfade of the clock that gave asks for one slot where cells pass, and otherwise for none. `filled` has how many
-- slots each was given; `sub` has the slots that each crossfade's sub-clock makes.
pub record GoesOnFor (setting : Setting) (sub : ℕ → ℕ → List Slot) (clock : NodeClock) (past : List Moment) (rest : ℕ)
    (filled : ℕ → ℕ) (held : List Part) (states : List NodeState) : Type 0 where
  pub stretch : IsStretch setting sub clock past (suc rest)
  pub held_is : IsHeld setting sub clock past held
  pub asks : AllAsk setting sub clock past filled states (length setting.clocks) rest

-- `rest` further instants of the sub-clock of crossfade k go on as its latest one, number n, did. At that one the
-- crossfade's child offered a cell. `sub` has the slots that each crossfade's sub-clock makes.
pub record IsOpen (setting : Setting) (sub : ℕ → ℕ → List Slot) (k rest : ℕ) (progress : Progress) (all : ClockStates)
    : Type 0 where
  pub n : ℕ
  pub at : progress.ran (Sub k) ≡ suc n
  pub gave : gives (moment_after setting sub (Sub k) (first_instants setting sub (Sub k) n))
      (crossfaded setting.plan.nodes k) ≡ true
  pub goes : GoesOnFor setting sub (Sub k) (first_instants setting sub (Sub k) n) rest progress.filled
      all.room.held.items all.states.items

-- In clocks that nest at least `level` deep, the states `all` stand for the instants that the clocks made, by
-- `progress`. There each crossfade was given just the slots that its sub-clock made, and deeper clocks ran as needed.
-- Readers in all clocks have taken the answers `front` of `progress`. Of states in clocks that nest less deep nothing
-- is said.
pub record Stand (setting : Setting) (sub : ℕ → ℕ → List Slot) (rank : NodeClock → ℕ) (level : ℕ) (progress : Progress)
    (all : ClockStates) : Type 0 where
  pub stand : (i : ℕ) (node : Node) (state : NodeState) → slice_get setting.plan.nodes i ≡ Some node
      → slice_get all.states.items i ≡ Some state
      → level ≤ rank (clock_of setting i)
      → StateStands setting sub (past_of setting sub progress.ran i) (progress.filled i) i (work_at setting i node)
      state
  pub taken : (i buffer : ℕ) (node : Node) → slice_get setting.plan.nodes i ≡ Some node
      → work_at setting i node ≡ Reads buffer
      → (reading_by setting i buffer (past_of setting sub progress.ran i) (progress.filled i)).taken
      ≡ length (progress.front buffer)
  pub even : (k : ℕ) → fade_at setting k ≡ true → level ≤ rank (clock_of setting k)
      → progress.filled k ≡ progress.ran (Sub k)
  pub time : (k : ℕ) (time : WeekTime) → level ≤ rank (clock_of setting k) → slice_get all.times.items k ≡ Some time
      → TimeStands setting.start (progress.ran (Sub k)) time
  pub needed : RanAsNeeded setting sub rank (suc level) progress
  pub kept : (k : ℕ) → k < length setting.plan.nodes → level ≤ rank (clock_of setting k) → 0 < rest_at all k
      → IsOpen setting sub k (rest_at all k) progress all
  pub laned : (i : ℕ) → i < length setting.plan.nodes → level ≤ rank (clock_of setting i) → laned_at all i

-- Node k can make its next instant. If it is a crossfade, it knows its item, which is what it plays next, and was given
-- no more slots of its child than that takes. `sub` has the slots that each crossfade's sub-clock makes.
pub record HasItem (setting : Setting) (sub : ℕ → ℕ → List Slot) (progress : Progress) (k : ℕ) (node : Node)
    : Type 0 where
  pub settled : IsSettled sub (past_of setting sub progress.ran k) (progress.filled k) k (work_at setting k node)
  pub run : (overlap : ℕ) → work_at setting k node ≡ Fades overlap
      → run_of overlap (sub k) (position (past_of setting sub progress.ran k) k) ≡ progress.filled k

-- Some nodes `touched`, crossfades in clocks that nest `level` deep, were given slots since `progress`, with the calls
-- `more` on buffers. Those in `done` can make their next instant. No clock that nests so deep or less made an instant.
-- `rank` says how deep a clock nests, and `sub` has the slots that each crossfade's sub-clock makes.
pub record IsReached (setting : Setting) (sub : ℕ → ℕ → List Slot) (rank : NodeClock → ℕ) (level : ℕ)
    (touched done : ℕ → Type 0) (progress : Progress) (more : List Call) (all : ClockStates) : Type 0 where
  pub now : Progress
  pub took : now.front ≡ after_calls progress.front more
  pub stand : Stand setting sub rank level now all
  pub others : (clock : NodeClock) → rank clock ≤ level → now.ran clock ≡ progress.ran clock
  pub held : (i : ℕ) → (touched i → ⊥) → rank (clock_of setting i) ≤ level → now.filled i ≡ progress.filled i
  -- but for crossfades no node was filled, and no reader has begun an instant
  pub idle : (i : ℕ) → fade_at setting i ≡ false → rank (clock_of setting i) ≤ level → now.filled i ≡ progress.filled i
  pub items : (i : ℕ) (node : Node) → done i → slice_get setting.plan.nodes i ≡ Some node
      → HasItem setting sub now i node

-- the puts and takes on buffers that instant m of the sub-clock of crossfade k makes; `sub` has the slots that each
-- crossfade's sub-clock makes
abbrev pub calls_below : Setting → (sub : ℕ → ℕ → List Slot) → (k m : ℕ) → List Call
calls_below setting sub k m = calls_of setting sub (Sub k) (first_instants setting sub (Sub k) m)

-- Crossfade k was given further slots of its child since `progress`. Its sub-clock made instants for them, with the
-- calls `more` on buffers. If k is in the set `done`, it can make its next instant. `rank` says how deep a clock nests,
-- and `sub` has the slots that each crossfade's sub-clock makes.
pub record IsFilling (setting : Setting) (sub : ℕ → ℕ → List Slot) (rank : NodeClock → ℕ) (k : ℕ) (done : ℕ → Type 0)
    (progress : Progress) (more : List Call) (all : ClockStates) : Type 0 where
  pub reached : IsReached setting sub rank (rank (clock_of setting k)) (is_node k) done progress more all
  pub low : progress.filled k ≤ reached.now.filled k
  pub calls : more ≡ joined_between (calls_below setting sub k) (progress.filled k) (reached.now.filled k)

-- The puts and takes that sub-clocks make for a clock's crossfades with numbers below n, at the clock's instant after
-- this past. `sub` has the slots that each crossfade's sub-clock makes.
abbrev pub calls_upto : Setting → (sub : ℕ → ℕ → List Slot) → NodeClock → List Moment → (n : ℕ) → List Call
calls_upto setting sub clock past n =
    joined_upto (λ k. fades_in setting sub (calls_below setting sub) (lies_in setting clock k) past k
    (slice_get setting.plan.nodes k)) n

-- Since `progress` a clock has made one instant more, with the calls `more` on buffers, and no other clock that nests
-- as deep or less has. Below it, no clock has made more instants than its crossfade asks for. `rank` says how deep a
-- clock nests, and `sub` has the slots that each crossfade's sub-clock makes.
pub record HasMadeInstant (setting : Setting) (sub : ℕ → ℕ → List Slot) (rank : NodeClock → ℕ) (clock : NodeClock)
    (progress : Progress) (more : List Call) (all : ClockStates) : Type 0 where
  pub now : Progress
  pub took : now.front ≡ after_calls progress.front more
  pub stand : Stand setting sub rank (rank clock) now all
  pub once : now.ran clock ≡ suc (progress.ran clock)
  pub others : (other : NodeClock) → (other ≡ clock → ⊥) → rank other ≤ rank clock → now.ran other ≡ progress.ran other
  pub held : (i : ℕ) → (clock_of setting i ≡ clock → ⊥) → rank (clock_of setting i) ≤ rank clock
      → now.filled i ≡ progress.filled i
  pub needed : RanAsNeeded setting sub rank (rank clock) now
  pub calls : more ≡ calls_of setting sub clock (first_instants setting sub clock (progress.ran clock))
  pub parts : all.latest.parts.items
      ≡ (moment_after setting sub clock (first_instants setting sub clock (progress.ran clock))).parts
  pub keeps : IsHeld setting sub clock (first_instants setting sub clock (progress.ran clock)) all.room.held.items

-- What is known of a setting, whatever its buffers answer: `rank` says how deep each clock nests, and `sub` has the
-- slots that each crossfade's sub-clock makes. The calls of instants follow one rule in all clocks, and no buffer has
-- two readers. `own` says of each node whether its own clock asks for it.
pub record IsWorld (setting : Setting) (sub : ℕ → ℕ → List Slot) (rank : NodeClock → ℕ) (own : List Bool) : Type 0 where
  pub ranks : HasRanks setting.clocks rank
  pub meaning : IsMeaning setting sub
  pub down : GoDown setting sub
  pub readers : HasOwnReaders setting
  pub roots : AreOwnRoots setting own

-- A clock's instant at this time was made, and its calls on buffers went through the taps. Whatever instants the old
-- states stood for, and whatever answers follow, the new ones stand for one more. `stands taps calls` says that taps
-- have made these calls, and `own` which nodes their own clock asks for.
pub record InstantMade {T : Type 0} (stands : T → List Call → Type 0) (scene : Scene) (own : List Bool)
    (clock : NodeClock) (time : WeekTime) (old new : ClockStates) (taps_old taps_new : T) : Type 0 where
  pub more : List Call
  pub taps : Adds stands taps_old taps_new more
  pub made : (other : Setting) (sub : ℕ → ℕ → List Slot) (rank : NodeClock → ℕ) (progress : Progress) →
      let setting = setting_over scene other in
      IsWorld setting sub rank own → HasAnswers setting (after_calls progress.front more)
      → Stand setting sub rank (rank clock) progress old → RanAsNeeded setting sub rank (rank clock) progress
      → TimeStands setting.start (progress.ran clock) time
      → HasMadeInstant setting sub rank clock progress more new

-- Memory was refused in a clock's instant at this time: the calls `made` are the first of those that the meaning gives
-- it, whatever instants the states stood for. `stands taps calls` says that taps have made these calls, and `own` which
-- nodes their own clock asks for.
pub record InstantStopped {T : Type 0} (stands : T → List Call → Type 0) (scene : Scene) (own : List Bool)
    (clock : NodeClock) (time : WeekTime) (old : ClockStates) (taps_old taps_new : T) : Type 0 where
  pub made : List Call
  pub taps : Adds stands taps_old taps_new made
  pub begins : (other : Setting) (sub : ℕ → ℕ → List Slot) (rank : NodeClock → ℕ) (progress : Progress) →
      let setting = setting_over scene other in
      IsWorld setting sub rank own → HasAnswers setting (after_calls progress.front made)
      → Stand setting sub rank (rank clock) progress old → RanAsNeeded setting sub rank (rank clock) progress
      → TimeStands setting.start (progress.ran clock) time
      → IsBegin made (calls_of setting sub clock (first_instants setting sub clock (progress.ran clock)))

-- How far a run came once the readers of a clock have begun one instant more since `progress`. The counts of these
-- readers rise by one, and the answers taken grow by those of the calls `more`.
abbrev pub begun_progress : Setting → NodeClock → Progress → (more : List Call) → Progress
begun_progress setting clock progress more = record {
  ran = progress.ran;
  filled = begun_in setting clock progress.filled;
  front = after_calls progress.front more;
}

-- The readers of a clock have begun its next instant after `progress`, with the calls `more`: takes, if that instant
-- begins a tick, and otherwise none. The states `all` stand for that. `rank` says how deep a clock nests, and `sub` has
-- the slots that each crossfade's sub-clock makes.
pub record Opened (setting : Setting) (sub : ℕ → ℕ → List Slot) (rank : NodeClock → ℕ) (clock : NodeClock)
    (progress : Progress) (more : List Call) (all : ClockStates) : Type 0 where
  pub stand : Stand setting sub rank (rank clock) (begun_progress setting clock progress more) all
  pub calls : more ≡ takes_at setting clock (first_instants setting sub clock (progress.ran clock))

-- The readers of a clock began its instant at this time, and made calls, which are takes if it begins a tick. This
-- holds whatever instants the old states stood for, and whatever answers follow. `stands taps calls` says that taps
-- have made these calls.
pub record ClockOpened {T : Type 0} (stands : T → List Call → Type 0) (scene : Scene) (clock : NodeClock)
    (time : WeekTime) (old new : ClockStates) (taps_old taps_new : T) : Type 0 where
  pub more : List Call
  pub taps : Adds stands taps_old taps_new more
  pub opened : (other : Setting) (sub : ℕ → ℕ → List Slot) (rank : NodeClock → ℕ) (progress : Progress) →
      let setting = setting_over scene other in
      HasRanks scene.clocks.now rank → HasOwnReaders setting → HasAnswers setting (after_calls progress.front more)
      → Stand setting sub rank (rank clock) progress old → RanAsNeeded setting sub rank (rank clock) progress
      → TimeStands setting.start (progress.ran clock) time
      → Opened setting sub rank clock progress more new

-- Memory was refused while the readers of a clock began its instant at this time. The calls `made` are the first of the
-- takes that the meaning gives that instant, whatever instants the states stood for. `stands taps calls` says that taps
-- have made these calls.
pub record OpeningStopped {T : Type 0} (stands : T → List Call → Type 0) (scene : Scene) (clock : NodeClock)
    (time : WeekTime) (old : ClockStates) (taps_old taps_new : T) : Type 0 where
  pub made : List Call
  pub taps : Adds stands taps_old taps_new made
  pub begins : (other : Setting) (sub : ℕ → ℕ → List Slot) (rank : NodeClock → ℕ) (progress : Progress) →
      let setting = setting_over scene other in
      HasOwnReaders setting → HasAnswers setting (after_calls progress.front made)
      → Stand setting sub rank (rank clock) progress old → RanAsNeeded setting sub rank (rank clock) progress
      → TimeStands setting.start (progress.ran clock) time
      → IsBegin made (takes_at setting clock (first_instants setting sub clock (progress.ran clock)))

-- Node k, if it is a crossfade, knows its item, which is what it plays next. Its sub-clock made the calls `more` on
-- buffers for it, whatever instants the old states stood for, and whatever answers follow. `stands taps calls` says
-- that taps have made these calls, and `own` which nodes their own clock asks for.
pub record NodeSettled {T : Type 0} (stands : T → List Call → Type 0) (scene : Scene) (own : List Bool) (k : ℕ)
    (old new : ClockStates) (taps_old taps_new : T) : Type 0 where
  pub more : List Call
  pub taps : Adds stands taps_old taps_new more
  pub settled : (other : Setting) (sub : ℕ → ℕ → List Slot) (rank : NodeClock → ℕ) (progress : Progress) →
      let setting = setting_over scene other in
      IsWorld setting sub rank own → HasAnswers setting (after_calls progress.front more)
      → Stand setting sub rank (rank (clock_at scene.clocks.now k)) progress old
      → (reads_at setting k ≡ true → progress.filled k ≡ suc (progress.ran (clock_at scene.clocks.now k)))
      → IsFilling setting sub rank k (is_node k) progress more new

-- Memory was refused while crossfade k was given slots of its child. The calls `made` are the first of those that its
-- sub-clock makes for its item, which is what it plays next. `sub` has the slots that each crossfade's sub-clock makes.
pub record IsFillingStopped (setting : Setting) (sub : ℕ → ℕ → List Slot) (progress : Progress) (k : ℕ)
    (made : List Call) : Type 0 where
  pub overlap : ℕ
  pub node : Node
  pub there : slice_get setting.plan.nodes k ≡ Some node
  pub fades : work_at setting k node ≡ Fades overlap
  pub begins : IsBegin made
      (joined_between (calls_below setting sub k) (progress.filled k)
      (run_of overlap (sub k) (position (past_of setting sub progress.ran k) k)))

-- Memory was refused while crossfade k was given slots of its child. The calls `made` are the first of those for its
-- item, which is what it plays next, whatever instants the states stood for. `stands taps calls` says that taps have
-- made these calls, and `own` which nodes their own clock asks for.
pub record NodeStopped {T : Type 0} (stands : T → List Call → Type 0) (scene : Scene) (own : List Bool) (k : ℕ)
    (old : ClockStates) (taps_old taps_new : T) : Type 0 where
  pub made : List Call
  pub taps : Adds stands taps_old taps_new made
  pub begins : (other : Setting) (sub : ℕ → ℕ → List Slot) (rank : NodeClock → ℕ) (progress : Progress) →
      let setting = setting_over scene other in
      IsWorld setting sub rank own → HasAnswers setting (after_calls progress.front made)
      → Stand setting sub rank (rank (clock_at scene.clocks.now k)) progress old
      → IsFillingStopped setting sub progress k made

-- Since `progress`, the crossfades of a clock with numbers below `below` came to know their items, which is what they
-- play next. The calls `more` are those of the instants that their sub-clocks made for it. `rank` says how deep a clock
-- nests, and `sub` has the slots that each crossfade's sub-clock makes.
pub record AreFilled (setting : Setting) (sub : ℕ → ℕ → List Slot) (rank : NodeClock → ℕ) (clock : NodeClock)
    (below : ℕ) (progress : Progress) (more : List Call) (all : ClockStates) : Type 0 where
  pub reached : IsReached setting sub rank (rank clock) (is_upto setting.clocks clock below)
      (is_upto setting.clocks clock below) progress more all
  pub calls : more ≡ calls_upto setting sub clock (first_instants setting sub clock (progress.ran clock)) below

-- A clock's next instant has begun, and its crossfades are still to be fed. Each was given just the slots of its child
-- that the instants before took, and the readers have begun the instant. `sub` has the slots that each crossfade's
-- sub-clock makes.
pub record AreReady (setting : Setting) (sub : ℕ → ℕ → List Slot) (clock : NodeClock) (progress : Progress)
    : Type 0 where
  pub each : (k overlap : ℕ) (node : Node) → slice_get setting.plan.nodes k ≡ Some node
      → work_at setting k node ≡ Fades overlap
      → clock_of setting k ≡ clock
      → progress.filled k ≡ ran_by sub k overlap (first_instants setting sub clock (progress.ran clock))
  pub begun : (i : ℕ) → reads_at setting i ≡ true → clock_of setting i ≡ clock
      → progress.filled i ≡ suc (progress.ran clock)

-- The crossfades of a clock with numbers below `below` know their items, which is what they play next, and the calls
-- `more` were made for it. This holds whatever instants the old states stood for, and whatever answers follow.
-- `stands taps calls` says that taps have made these calls, and `own` which nodes their own clock asks for.
pub record AllSettled {T : Type 0} (stands : T → List Call → Type 0) (scene : Scene) (own : List Bool)
    (clock : NodeClock) (below : ℕ) (old new : ClockStates) (taps_old taps_new : T) : Type 0 where
  pub more : List Call
  pub taps : Adds stands taps_old taps_new more
  pub settled : (other : Setting) (sub : ℕ → ℕ → List Slot) (rank : NodeClock → ℕ) (progress : Progress) →
      let setting = setting_over scene other in
      IsWorld setting sub rank own → HasAnswers setting (after_calls progress.front more)
      → Stand setting sub rank (rank clock) progress old → AreReady setting sub clock progress
      → AreFilled setting sub rank clock below progress more new

-- Memory was refused while a clock's crossfades were given slots of their children. The calls `made` are the first of
-- those for their items, which is what they play next, whatever instants the states stood for. `stands taps calls` says
-- that taps have made these calls, and `own` which nodes their own clock asks for.
pub record SettlingStopped {T : Type 0} (stands : T → List Call → Type 0) (scene : Scene) (own : List Bool)
    (clock : NodeClock) (old : ClockStates) (taps_old taps_new : T) : Type 0 where
  pub made : List Call
  pub taps : Adds stands taps_old taps_new made
  pub begins : (other : Setting) (sub : ℕ → ℕ → List Slot) (rank : NodeClock → ℕ) (progress : Progress) →
      let setting = setting_over scene other in
      IsWorld setting sub rank own → HasAnswers setting (after_calls progress.front made)
      → Stand setting sub rank (rank clock) progress old → AreReady setting sub clock progress
      → IsBegin made
      (calls_upto setting sub clock (first_instants setting sub clock (progress.ran clock))
      (length scene.plan.now.nodes))
