-- What changes from instant to instant, and what it stands for.
use Rattle.std.specs.Prelude.{◌≡◌, ℕ, Bool, List, length}
use Rattle.clock_infer.specs.declared.clock_map.NodeClock.{NodeClock}
use Rattle.clock_infer.specs.declared.clock_map.NodeClock.TheVariants.{Sub}
use Rattle.frame_core.specs.Slots.{Slot}
use Rattle.frame_core.specs.Calls.{Answer}
use Rattle.stream_meaning.specs.Instants.{Setting}
use Rattle.node_states.specs.Times.{TimeStands}
use Rattle.clock_nodes.specs.declared.scene.Scene.{Scene}
use Rattle.clock_nodes.specs.Scenes.{IsScene}
use Rattle.nested_instants.specs.Clocks.{AreClockStates, HasLevels, HasRanks, Progress, RanAsNeeded, Stand}
use Rattle.clock_ticks.specs.declared.clock_state.ClockState.{ClockState}

-- the clock is a main clock, so it is not the sub-clock of any crossfade
abbrev pub IsMain : NodeClock → Type 0
IsMain clock = (k : ℕ) → clock ≡ Sub k → ⊥

-- the states are for the nodes of a scene, a plan with its files and clocks, and the clock's time has the plan's rate
-- and tick length (`frame`)
pub record IsClockState (scene : Scene) (state : ClockState) : Type 0 where
  pub below : AreClockStates scene state.clocks
  pub rate : state.time.rate ≡ scene.plan.now.rate
  pub frame : state.time.frame ≡ scene.plan.now.frame

-- A main clock can make instants: its states fit the scene, which is a plan with its files and clocks. Sub-clocks nest
-- no deeper than there are nodes. `own`, which says of each node whether its own clock asks for it, has an entry for
-- each node.
pub record CanMake (scene : Scene) (clock : NodeClock) (own : List Bool) (state : ClockState) : Type 0 where
  pub scene_is : IsScene scene
  pub in_own : length own ≡ length scene.plan.now.nodes
  pub main : IsMain clock
  pub levels : HasLevels scene.clocks.now clock (length scene.plan.now.nodes)
  pub state_is : IsClockState scene state

-- The states stand for the first n instants of a clock, and for as many of the sub-clocks below it as its crossfades
-- asked for. In them all readers have taken the answers `front`, by buffer. `sub` has the slots that each crossfade's
-- sub-clock makes.
pub record ClockStateStands (setting : Setting) (sub : ℕ → ℕ → List Slot) (clock : NodeClock) (n : ℕ) (front : ℕ
    → List Answer) (state : ClockState) : Type 0 where
  pub rank : NodeClock → ℕ
  pub now : Progress
  pub ranks : HasRanks setting.clocks rank
  pub made : now.ran clock ≡ n
  pub took : now.front ≡ front
  pub stand : Stand setting sub rank (rank clock) now state.clocks
  pub needed : RanAsNeeded setting sub rank (rank clock) now
  pub time : TimeStands setting.start n state.time
