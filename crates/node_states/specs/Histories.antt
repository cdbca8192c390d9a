-- The instants that a clock has made so far.
use Rattle.std.specs.Prelude.{ℕ, ℤ, suc, List}
use Rattle.plan_core.specs.declared.node.Node.{Node}
use Rattle.clock_infer.specs.declared.clock_map.NodeClock.{NodeClock}
use Rattle.frame_core.specs.Slots.{Slot}
use Rattle.op_leaf.specs.Lanes.{IsLane}
use Rattle.stream_meaning.specs.Instants.{Setting, Moment, moment_after, work_at}
use Rattle.stretch_laws.specs.Stretches.{going_on, lane}
use Rattle.node_states.specs.declared.state.NodeState.{NodeState}
use Rattle.node_states.specs.States.{StateStands}

-- a clock in a setting, the slots of the sub-clocks, and the instants that it has made
pub record History : Type 0 where
  pub setting : Setting
  pub sub : ℕ → ℕ → List Slot
  pub clock : NodeClock
  pub past : List Moment

-- the four as one record: a setting, the slots of the sub-clocks, a clock, and its past, the latest instant first
abbrev pub history_of : Setting → (sub : ℕ → ℕ → List Slot) → NodeClock → List Moment → History
history_of setting sub clock past = record {
  setting = setting;
  sub = sub;
  clock = clock;
  past = past;
}

-- the moment after the past of a clock: what its nodes offer at the next instant, and which of them are demanded
abbrev pub next_of : History → Moment
next_of history = moment_after history.setting history.sub history.clock history.past

-- the state of node i stands for the past and the next n instants; `filled` is how many slots of its child a crossfade
-- was given, or how many instants a reader has begun
abbrev pub StandsOn : History → (n filled i : ℕ) → Node → NodeState → Type 0
StandsOn history n filled i node state = StateStands history.setting history.sub
    (going_on history.setting history.sub history.clock n history.past) filled i (work_at history.setting i node) state

-- these are the left and right samples of node i at the `many` instants after the next one
abbrev pub IsLaneOf : History → (i many : ℕ) → (left right : List ℤ) → Type 0
IsLaneOf history i many left right = IsLane
    (λ j. lane history.setting history.sub history.clock history.past (suc j) i) many left right
