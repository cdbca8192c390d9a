-- What the outputs and feeds of a clock hear in a tick.
use Rattle.std.specs.Prelude.{◌≡◌, ◌<◌, ◌≤◌, ◌^◌, ℕ, suc, ◌+◌, All, Bool, true, false, Some, List, length, map, slice_get, slice_index_or}
use Rattle.std.specs.List.{range_with_len}
use Rattle.clock_infer.specs.declared.clock_map.NodeClock.{NodeClock}
use Rattle.frame_core.specs.Slots.{Slot}
use Rattle.frame_core.specs.Calls.{Adds, Call, Answer}
use Rattle.stream_meaning.specs.Instants.{Setting, IsMeaning, first_instants, moment_after, offer, part_at}
use Rattle.stream_meaning.specs.Calls.{GoDown, HasAnswers, IsBegin, after_calls, calls_of, joined_upto}
use Rattle.clock_outputs.specs.declared.port.Port.{Port}
use Rattle.clock_outputs.specs.declared.feed.FeedPort.{FeedPort}
use Rattle.clock_outputs.specs.Feeds.{fed, unfed}
use Rattle.clock_outputs.specs.Ports.{AllHaveRoomLeft, after_slots, emptied}
use Rattle.clock_outputs.specs.Segments.{segment_slots}
use Rattle.clock_nodes.specs.declared.scene.Scene.{Scene}
use Rattle.clock_nodes.specs.Scenes.{setting_over}
use Rattle.clock_instants.specs.Takes.{HasOwnReaders}
use Rattle.op_mix.specs.Stretches.{samples_of}
use Rattle.nested_instants.specs.Clocks.{AreOwnRoots}
use Rattle.nested_instants.specs.declared.clock_states.ClockStates.{ClockStates}
use Rattle.clock_ticks.specs.declared.clock_state.ClockState.{ClockState}
use Rattle.clock_ticks.specs.declared.cues.CueList.{CueList}
use Rattle.clock_ticks.specs.declared.cues.Cues.{Cues}
use Rattle.clock_ticks.specs.Cues.{HasMarked, HasMarkedSome, marks_if}
use Rattle.clock_ticks.specs.Standing.{ClockStateStands}

-- What is known of a setting, whatever its buffers answer: `sub` has the slots that each crossfade's sub-clock makes,
-- by what the setting means. The calls of instants follow one rule in all clocks, and no buffer has two readers. `own`
-- says of each node whether its own clock asks for it.
pub record IsMeant (setting : Setting) (sub : ℕ → ℕ → List Slot) (own : List Bool) : Type 0 where
  pub meaning : IsMeaning setting sub
  pub down : GoDown setting sub
  pub readers : HasOwnReaders setting
  pub roots : AreOwnRoots setting own

-- the slot that node i offers at instant n of a clock; `sub` has the slots of the sub-clocks
abbrev pub slot_in : Setting → (sub : ℕ → ℕ → List Slot) → NodeClock → (i n : ℕ) → Slot
slot_in setting sub clock i n = offer (moment_after setting sub clock (first_instants setting sub clock n)) i

-- the puts and takes on buffers of `count` instants of a clock, from instant n on; `sub` has the slots of the
-- sub-clocks
abbrev pub calls_from : Setting → (sub : ℕ → ℕ → List Slot) → NodeClock → (n count : ℕ) → List Call
calls_from setting sub clock n count = joined_upto
    (λ j. calls_of setting sub clock (first_instants setting sub clock (n + j))) count

-- the key of a feed: the buffer that it fills, and the node that it plays
abbrev pub feed_key : FeedPort → ℕ × ℕ
feed_key feed = (feed.buffer, feed.node)

-- what some instants of a clock came to: the slots of each node, by its number, the calls on buffers, and the states
-- after them
pub record Outcome : Type 0 where
  pub slots : ℕ → List Slot
  pub calls : List Call
  pub state : ClockState

-- puts together what some instants came to: the slots of each node, the calls on buffers, and the states after them
abbrev pub outcome : (ℕ → List Slot) → List Call → ClockState → Outcome
outcome slots calls state = record { slots = slots; calls = calls; state = state }

-- A clock that had made n instants made `count` more, with this outcome (`made`): its states stand for them too. The
-- slots of the nodes that the clock asks for (`own`) and the calls are theirs. `front` has the answers taken before, by
-- buffer, and `sub` the slots that each crossfade's sub-clock makes.
pub record HasMadeInstants (setting : Setting) (sub : ℕ → ℕ
    → List Slot) (own : List Bool) (clock : NodeClock) (n count : ℕ) (front : ℕ → List Answer)
    (made : Outcome) : Type 0 where
  pub state_stands : ClockStateStands setting sub clock (n + count) (after_calls front made.calls) made.state
  pub slots_are : (i : ℕ) → slice_index_or own i false ≡ true
      → made.slots i ≡ map (slot_in setting sub clock i) (range_with_len n count)
  pub calls : made.calls ≡ calls_from setting sub clock n count

-- What changes in a tick of a clock: its states, outputs, feeds and marks (where tracks begin), and its taps, which
-- are its way to the buffers. `start` is the first instant of the tick.
pub record Hearing (T : Type 0) : Type 0 where
  pub state : ClockState
  pub ports : List Port
  pub feeds : List FeedPort
  pub cues : Cues
  pub start : ℕ
  pub taps : T

-- puts together what changes in a tick of a clock: states, outputs, feeds, marks and taps, with the tick's first
-- instant `start`
abbrev pub hearing_by : {T : Type 0} → ClockState → List Port → List FeedPort → Cues → (start : ℕ) → T → Hearing T
hearing_by state ports feeds cues start taps = record {
  state = state;
  ports = ports;
  feeds = feeds;
  cues = cues;
  start = start;
  taps = taps;
}

-- The outputs (`ports`) and feeds of a clock are ready for a tick that begins at instant `start`. They have room for
-- it, they are of nodes of the plan, and each output has a list of marks, which says where tracks begin.
pub record CanHear (scene : Scene) (ports : List Port) (feeds : List FeedPort) (cues : Cues) (start : ℕ) : Type 0 where
  pub heard : All (λ port. port.node < length scene.plan.now.nodes) ports
  pub fed : All (λ feed. feed.node < length scene.plan.now.nodes) feeds
  pub room : AllHaveRoomLeft scene.plan.now.frame (map emptied ports)
  pub frames : All (λ feed. scene.plan.now.frame ≤ feed.frame.room) feeds
  pub marks : length cues.lists.items ≡ length ports
  pub late : start + scene.plan.now.frame < 2 ^ 64

-- `count` instants of a tick were made, and the outputs, feeds and marks got the slots of their nodes. Whatever
-- instants the states stood for, these are the next ones, and their calls on buffers went through the taps.
-- `stands taps calls` says that taps have made these calls, and `own` which nodes their clock asks for.
pub record Heard {T : Type 0} (stands : T → List Call
    → Type 0) (scene : Scene) (clock : NodeClock) (own : List Bool) (count : ℕ)
    (before after : Hearing T) : Type 0 where
  pub slots : ℕ → List Slot
  pub long : (i : ℕ) → length (slots i) ≡ count
  pub ports_are : after.ports ≡ map (λ port. after_slots (emptied port) (slots port.node)) before.ports
  pub feeds_are : after.feeds ≡ map (λ feed. fed (unfed feed) (slots feed.node)) before.feeds
  pub keeping : after.cues.keeping ≡ before.cues.keeping
  pub lists : length after.cues.lists.items ≡ length before.cues.lists.items
  pub cues_are : (k : ℕ) (port : Port) (old new : CueList) → slice_get before.ports k ≡ Some port
      → slice_get before.cues.lists.items k ≡ Some old
      → slice_get after.cues.lists.items k ≡ Some new
      → HasMarked (marks_if before.cues.keeping before.start (slots port.node)) old new
  pub more : List Call
  pub taps : Adds stands before.taps after.taps more
  pub run : (other : Setting) (sub : ℕ → ℕ → List Slot) (n : ℕ) (front : ℕ → List Answer)
      → IsMeant (setting_over scene other) sub own
      → HasAnswers (setting_over scene other) (after_calls front more)
      → ClockStateStands (setting_over scene other) sub clock n front before.state
      → HasMadeInstants (setting_over scene other) sub own clock n count front (outcome slots more after.state)

-- Memory was refused in a tick of `total` instants of a clock. The calls `made` are the first of the tick's, whatever
-- instants the states stood for; of outputs and marks less is known than after a whole tick. `stands taps calls` says
-- that taps have made these calls, and `own` which nodes their clock asks for.
pub record HeardSome {T : Type 0} (stands : T → List Call
    → Type 0) (scene : Scene) (clock : NodeClock) (own : List Bool) (total : ℕ)
    (before after : Hearing T) : Type 0 where
  pub slots : ℕ → List Slot
  pub ports_are : after.ports ≡ map (λ port. after_slots (emptied port) (slots port.node)) before.ports
  pub keeping : after.cues.keeping ≡ before.cues.keeping
  pub lists : length after.cues.lists.items ≡ length before.cues.lists.items
  pub cues_are : (k : ℕ) (old new : CueList) → slice_get before.cues.lists.items k ≡ Some old
      → slice_get after.cues.lists.items k ≡ Some new → HasMarkedSome old new
  pub made : List Call
  pub taps : Adds stands before.taps after.taps made
  pub begins : (other : Setting) (sub : ℕ → ℕ → List Slot) (n : ℕ) (front : ℕ → List Answer)
      → IsMeant (setting_over scene other) sub own
      → HasAnswers (setting_over scene other) (after_calls front made)
      → ClockStateStands (setting_over scene other) sub clock n front before.state
      → IsBegin made (calls_from (setting_over scene other) sub clock n total)

-- The slots of node i in the latest segment: an instant, and `many` more that go on as it did. The first slot is that
-- of the latest instant, and the others are by the samples that the node left.
abbrev pub segment_of : ClockStates → (many i : ℕ) → List Slot
segment_of all many i =
    segment_slots (part_at all.latest.parts.items i).slot many (samples_of all.room.left.items i many)
    (samples_of all.room.right.items i many)

-- the states of a clock, and its taps, through which it puts into buffers and takes from them
pub record Tapped (T : Type 0) : Type 0 where
  pub state : ClockState
  pub taps : T

-- puts together the states of a clock and its taps, through which it puts into buffers and takes from them
abbrev pub tapped : {T : Type 0} → ClockState → T → Tapped T
tapped state taps = record { state = state; taps = taps }

-- A segment was made: an instant of a clock, and `many` more that go on as it did. Whatever instants the states before
-- stood for, those after stand for these too, and the taps got their calls. `stands taps calls` says that taps have
-- made these calls, and `own` which nodes their clock asks for.
pub record SegmentMade {T : Type 0} (stands : T → List Call
    → Type 0) (scene : Scene) (clock : NodeClock) (own : List Bool) (many : ℕ)
    (before after : Tapped T) : Type 0 where
  pub more : List Call
  pub taps : Adds stands before.taps after.taps more
  pub run : (other : Setting) (sub : ℕ → ℕ → List Slot) (n : ℕ) (front : ℕ → List Answer)
      → IsMeant (setting_over scene other) sub own
      → HasAnswers (setting_over scene other) (after_calls front more)
      → ClockStateStands (setting_over scene other) sub clock n front before.state
      → HasMadeInstants (setting_over scene other) sub own clock n (suc many) front
      (outcome (segment_of after.state.clocks many) more after.state)

-- Memory was refused in the first instant of a segment, after the calls `made`. These are the first of the instant's
-- calls on buffers, whatever instants the states stood for. `stands taps calls` says that taps have made these calls,
-- and `own` which nodes their clock asks for.
pub record SegmentBroken {T : Type 0} (stands : T → List Call
    → Type 0) (scene : Scene) (clock : NodeClock) (own : List Bool)
    (old : ClockState) (taps_old taps_new : T) : Type 0 where
  pub made : List Call
  pub taps : Adds stands taps_old taps_new made
  pub begins : (other : Setting) (sub : ℕ → ℕ → List Slot) (n : ℕ) (front : ℕ → List Answer)
      → IsMeant (setting_over scene other) sub own
      → HasAnswers (setting_over scene other) (after_calls front made)
      → ClockStateStands (setting_over scene other) sub clock n front old
      → IsBegin made (calls_of (setting_over scene other) sub clock
      (first_instants (setting_over scene other) sub clock n))
