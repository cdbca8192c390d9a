-- Instants of a clock that go on as its latest one did, made at once.
use Rattle.std.specs.Prelude.{◌≡◌, ◌<◌, ◌≤◌, ◌+◌, ◌&&◌, Bool, true, false, None, Some, List, [], ℕ, ℤ, suc, is_some, length, slice_get, slice_index_or}
use Rattle.clock_infer.specs.declared.clock_map.NodeClock.{NodeClock}
use Rattle.clock_infer.specs.declared.clock_map.NodeClock.TheVariants.{Sub}
use Rattle.frame_core.specs.Calls.{Call}
use Rattle.frame_core.specs.Slots.{Slot, title_of}
use Rattle.op_leaf.specs.Lanes.{AreTitled, IsLane}
use Rattle.stream_meaning.specs.Instants.{Setting, clock_of, crossfaded, first_instants, moment_after, offer, part_at}
use Rattle.stream_meaning.specs.Calls.{calls_of}
use Rattle.op_mix.specs.Stretches.{samples_of}
use Rattle.node_states.specs.declared.time.WeekTime.{WeekTime}
use Rattle.node_states.specs.Times.{TimeStands}
use Rattle.clock_nodes.specs.declared.scene.Scene.{Scene}
use Rattle.clock_nodes.specs.Scenes.{IsScene, setting_over}
use Rattle.nested_instants.specs.declared.clock_states.ClockStates.{ClockStates}
use Rattle.clock_instants.specs.Held.{IsHeld, gave_at, goes_through, passes_at}
use Rattle.node_states.specs.Passing.{LaneFills}
use Rattle.nested_instants.specs.Clocks.{AreClockStates, GoesOnFor, IsFilling, IsIdle, IsOpen, IsWorld, Progress, RanAsNeeded, Stand, clock_at, fade_at, is_none, laned_at, rest_at, room_at}

-- The `many` slots of a node that follow a slot `first` go on as it: none if it is empty, and otherwise cells of its
-- title, in the middle of the track, with these left and right samples.
pub record IsStretchOf (slots : ℕ → Slot) (many : ℕ) (first : Slot) (left right : List ℤ) : Type 0 where
  pub given : is_some first ≡ true → IsLane slots many left right
  pub titled : is_some first ≡ true → AreTitled slots many (title_of first)
  pub silent : is_some first ≡ false → (j : ℕ) → j < many → slots j ≡ None

-- A clock has made `many` instants at once after its latest one, number n, without a call on a buffer. No other clock
-- that nests as deep (`rank`) or less has made one since `progress`. The nodes that the clock asks for (`own`) have
-- left their samples. `sub` has the slots that each crossfade's sub-clock makes.
pub record HasMadeOn (setting : Setting) (sub : ℕ → ℕ → List Slot) (rank : NodeClock → ℕ) (own : List Bool)
    (clock : NodeClock) (n many : ℕ) (progress : Progress) (all : ClockStates) : Type 0 where
  pub now : Progress
  pub took : now.front ≡ progress.front
  pub stand : Stand setting sub rank (rank clock) now all
  pub once : now.ran clock ≡ progress.ran clock + many
  pub others : (other : NodeClock) → (other ≡ clock → ⊥) → rank other ≤ rank clock → now.ran other ≡ progress.ran other
  pub held : (i : ℕ) → (clock_of setting i ≡ clock → ⊥) → rank (clock_of setting i) ≤ rank clock
      → now.filled i ≡ progress.filled i
  pub needed : RanAsNeeded setting sub rank (rank clock) now
  pub quiet : (j : ℕ) → j < many
      → calls_of setting sub clock (first_instants setting sub clock (progress.ran clock + j)) ≡ []
  pub slots : (i : ℕ) → slice_index_or own i false ≡ true
      → IsStretchOf
      (λ j. offer (moment_after setting sub clock (first_instants setting sub clock (progress.ran clock + j))) i) many
      (offer (moment_after setting sub clock (first_instants setting sub clock n)) i)
      (samples_of all.room.left.items i many) (samples_of all.room.right.items i many)

-- A clock whose latest instant is number n can make `many` more as that one. The states stand for the instants up to n,
-- no deeper clock ran further than needed, and so many instants go on. `rank` says how deep a clock nests, `own` which
-- nodes their clock asks for, and `sub` has the slots that each crossfade's sub-clock makes.
pub record CanGoOn (setting : Setting) (sub : ℕ → ℕ → List Slot) (rank : NodeClock → ℕ) (own : List Bool)
    (clock : NodeClock) (n many : ℕ) (progress : Progress) (all : ClockStates) : Type 0 where
  pub world : IsWorld setting sub rank own
  pub stand : Stand setting sub rank (rank clock) progress all
  pub needed : RanAsNeeded setting sub rank (rank clock) progress
  pub at : progress.ran clock ≡ suc n
  pub goes : GoesOnFor setting sub clock (first_instants setting sub clock n) many progress.filled all.room.held.items
      all.states.items

-- A clock can make `many` instants at once: at least one, at most 2048, and at most those of a second. Its states fit
-- the scene, which is a plan with its files and clocks. No count of further instants that go on is kept of this clock.
pub record CanRunClock (over : Scene) (clock : NodeClock) (many : ℕ) (all : ClockStates) : Type 0 where
  pub scene : IsScene over
  pub clocks : AreClockStates over all
  pub idle : IsIdle clock all
  pub some : 0 < many
  pub short : many ≤ 2048
  pub later : many ≤ over.plan.now.rate

-- A clock made `many` instants at once that go on as its latest one, and its states `old` came to `new`. Whatever
-- instants the old states stood for, if so many can go on, the new states stand for them too.
pub record ClockMade (scene : Scene) (clock : NodeClock) (many : ℕ) (old new : ClockStates) : Type 0 where
  pub run : (other : Setting) (sub : ℕ → ℕ → List Slot) (rank : NodeClock → ℕ) (progress : Progress)
      (own : List Bool) (n : ℕ) →
      let setting = setting_over scene other in
      CanGoOn setting sub rank own clock n many progress old
      → HasMadeOn setting sub rank own clock n many progress new

-- A clock made `many` instants at once after its latest one, which was at this time, and its states `old` came to
-- `new`. Whatever instants the old states stood for, the new ones stand for these too.
pub record StretchMade (scene : Scene) (clock : NodeClock) (time : WeekTime) (many : ℕ) (old new : ClockStates)
    : Type 0 where
  pub run : (other : Setting) (sub : ℕ → ℕ → List Slot) (rank : NodeClock → ℕ) (progress : Progress)
      (own : List Bool) (n : ℕ) →
      let setting = setting_over scene other in
      IsWorld setting sub rank own → Stand setting sub rank (rank clock) progress old
      → RanAsNeeded setting sub rank (rank clock) progress
      → progress.ran clock ≡ suc n → old.latest.parts.items
      ≡ (moment_after setting sub clock (first_instants setting sub clock n)).parts
      → IsHeld setting sub clock (first_instants setting sub clock n) old.room.held.items
      → TimeStands setting.start n time
      → HasMadeOn setting sub rank own clock n many progress new

-- Crossfade k can be given the slots of `many` instants of its sub-clock that are made at once: it has room for as many
-- cells. The clock in which it lies meets what so many instants at once need.
pub record CanFillLane (scene : Scene) (k many : ℕ) (all : ClockStates) : Type 0 where
  pub ready : CanRunClock scene (clock_at scene.clocks.now k) many all
  pub within : k < length scene.plan.now.nodes
  pub room : many ≤ room_at all.states.items k

-- Crossfade k may have been given more slots of its child, of instants that go on as the latest one of its sub-clock,
-- which was at this time. No call on a buffer was made for them. This holds whatever it was given before.
pub record FilledOn (scene : Scene) (k : ℕ) (time : WeekTime) (old new : ClockStates) : Type 0 where
  pub filled : (other : Setting) (sub : ℕ → ℕ → List Slot) (rank : NodeClock → ℕ) (progress : Progress)
      (more : List Call) (own : List Bool) (n : ℕ) →
      let setting = setting_over scene other in
      IsWorld setting sub rank own → fade_at setting k ≡ true
      → (before : IsFilling setting sub rank k is_none progress more old)
      → before.reached.now.ran (Sub k) ≡ suc n → old.latest.parts.items
      ≡ (moment_after setting sub (Sub k) (first_instants setting sub (Sub k) n)).parts
      → IsHeld setting sub (Sub k) (first_instants setting sub (Sub k) n) old.room.held.items
      → TimeStands setting.start n time
      → IsFilling setting sub rank k is_none progress more new

-- Since `progress`, sub-clocks of a clock's crossfades made `many` instants more, without a call on a buffer. These are
-- the crossfades with numbers below `below` through which cells pass (`through`). Their children left samples for them.
-- `rank` says how deep a clock nests, and `sub` has the slots that each crossfade's sub-clock makes.
pub record SubsMade (setting : Setting) (sub : ℕ → ℕ → List Slot) (rank : NodeClock → ℕ) (clock : NodeClock) (many : ℕ)
    (through : ℕ → Bool) (below : ℕ) (progress : Progress) (all : ClockStates) : Type 0 where
  pub now : Progress
  pub took : now.front ≡ progress.front
  pub stand : Stand setting sub rank (suc (rank clock)) now all
  pub needed : RanAsNeeded setting sub rank (suc (rank clock)) now
  pub others : (other : NodeClock) → rank other ≤ rank clock → now.ran other ≡ progress.ran other
  pub held : (i : ℕ) → rank (clock_of setting i) ≤ rank clock → now.filled i ≡ progress.filled i
  pub went : (k : ℕ) → k < length setting.plan.nodes → clock_of setting k ≡ clock → k < below → through k ≡ true
      → now.ran (Sub k) ≡ progress.ran (Sub k) + many
  pub stayed : (k : ℕ) → k < length setting.plan.nodes → rank (clock_of setting k) ≡ rank clock
      → (clock_of setting k ≡ clock → k < below → through k ≡ false)
      → now.ran (Sub k) ≡ progress.ran (Sub k)
  pub time : (k : ℕ) (time : WeekTime) → k < length setting.plan.nodes → rank clock ≤ rank (clock_of setting k)
      → slice_get all.times.items k ≡ Some time
      → TimeStands setting.start (now.ran (Sub k)) time
  pub kept : (k : ℕ) → k < length setting.plan.nodes → rank (clock_of setting k) ≡ rank clock → 0 < rest_at all k
      → IsOpen setting sub k (rest_at all k) now all
  pub quiet : (k j : ℕ) → k < length setting.plan.nodes → clock_of setting k ≡ clock → k < below → through k ≡ true
      → j < many
      → calls_of setting sub (Sub k) (first_instants setting sub (Sub k) (progress.ran (Sub k) + j)) ≡ []
  pub fills : (k : ℕ) → k < length setting.plan.nodes → clock_of setting k ≡ clock → k < below → through k ≡ true
      → LaneFills (sub k) (progress.ran (Sub k)) many
      (title_of (part_at all.room.held.items (crossfaded setting.plan.nodes k)).slot)
      (samples_of all.room.left.items (crossfaded setting.plan.nodes k) many)
      (samples_of all.room.right.items (crossfaded setting.plan.nodes k) many)
  pub inside : (k : ℕ) → k < length setting.plan.nodes → clock_of setting k ≡ clock → k < below → through k ≡ true
      → clock_of setting (crossfaded setting.plan.nodes k) ≡ Sub k

-- The sub-clocks of some of a clock's crossfades made `many` instants more, whatever instants the old states stood for.
-- These are the crossfades with numbers less than `below` through which cells pass at the clock's latest instant.
pub record SubClocksMade (scene : Scene) (clock : NodeClock) (many below : ℕ) (old new : ClockStates) : Type 0 where
  pub run : (other : Setting) (sub : ℕ → ℕ → List Slot) (rank : NodeClock → ℕ) (progress : Progress)
      (own : List Bool) (n : ℕ) →
      let setting = setting_over scene other in
      CanGoOn setting sub rank own clock n many progress old
      → SubsMade setting sub rank clock many
      (goes_through (moment_after setting sub clock (first_instants setting sub clock n)) old.states.items) below
      progress new

-- If node i is a crossfade through which cells pass, its sub-clock made `many` instants more. The sub-clocks of the
-- crossfades of its clock with smaller numbers had made theirs before.
pub record SubClockMade (scene : Scene) (i many : ℕ) (old new : ClockStates) : Type 0 where
  pub step : (other : Setting) (sub : ℕ → ℕ → List Slot) (rank : NodeClock → ℕ) (progress : Progress)
      (own : List Bool) (through : ℕ → Bool) →
      let setting = setting_over scene other in
      IsWorld setting sub rank own → through i ≡ (gave_at old.room.held.items i && passes_at old.states.items i)
      → SubsMade setting sub rank (clock_at scene.clocks.now i) many through i progress old
      → SubsMade setting sub rank (clock_at scene.clocks.now i) many through (suc i) progress new

-- A step, from the states `old` to `new`, leaves samples alone. In clocks that nest no deeper than `level`, nodes but
-- for those `touched` keep the first `many` samples that they left. `rank` says how deep a clock nests.
pub record AreSamplesLeft (clocks : List NodeClock) (rank : NodeClock → ℕ) (level : ℕ) (touched : ℕ → Type 0) (many : ℕ)
    (old new : ClockStates) : Type 0 where
  pub left : (i : ℕ) → (touched i → ⊥) → rank (clock_at clocks i) ≤ level
      → samples_of new.room.left.items i many ≡ samples_of old.room.left.items i many
  pub right : (i : ℕ) → (touched i → ⊥) → rank (clock_at clocks i) ≤ level
      → samples_of new.room.right.items i many ≡ samples_of old.room.right.items i many

-- A step, from the states `old` to `new`, leaves these alone: in clocks that nest no deeper than `level`, nodes keep
-- their states and what they gave. But for nodes `touched`, their sub-clocks keep their times and the counts of
-- instants that go on. Each node keeps its lanes. `rank` says how deep a clock nests.
pub record AreAbove (clocks : List NodeClock) (rank : NodeClock → ℕ) (level : ℕ) (touched : ℕ → Type 0)
    (old new : ClockStates) : Type 0 where
  pub states : (i : ℕ) → rank (clock_at clocks i) ≤ level → slice_get new.states.items i ≡ slice_get old.states.items i
  pub held : (i : ℕ) → rank (clock_at clocks i) ≤ level → part_at new.room.held.items i ≡ part_at old.room.held.items i
  pub times : (i : ℕ) → (touched i → ⊥) → rank (clock_at clocks i) ≤ level
      → slice_get new.times.items i ≡ slice_get old.times.items i
  pub rests : (i : ℕ) → (touched i → ⊥) → rank (clock_at clocks i) ≤ level → rest_at new i ≡ rest_at old i
  pub laned : (i : ℕ) → laned_at old i → laned_at new i
