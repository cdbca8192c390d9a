-- A node of a clock over a stretch of instants.
use Rattle.std.specs.Prelude.{ℕ, Bool, List}
use Rattle.plan_core.specs.declared.node.Node.{Node}
use Rattle.plan_core.specs.Plans.{AreNodes}
use Rattle.clock_infer.specs.declared.clock_map.NodeClock.{NodeClock}
use Rattle.frame_core.specs.Slots.{Slot}
use Rattle.stream_meaning.specs.Operators.{Work}
use Rattle.stream_meaning.specs.Instants.{Setting, Moment, gives, moment_after, work_at}
use Rattle.stretch_laws.specs.Stretches.{IsNode, IsStretch, lane}

-- Node i of a clock, with all that decides what it does over a stretch. The stretch is a row of `instants` instants
-- after `past`, in which nothing begins behind the first. `sub` has the slots that sub-clocks make for each crossfade.
pub record NodeOver : Type 0 where
  pub setting : Setting
  pub sub : ℕ → ℕ → List Slot
  pub clock : NodeClock
  pub past : List Moment
  pub instants : ℕ
  pub i : ℕ
  pub node : Node
  pub nodes : AreNodes setting.plan.nodes
  pub stretch : IsStretch setting sub clock past instants
  pub there : IsNode setting clock i node

-- what all nodes do at the first instant of the stretch: their slots, the children picked, and the demands
abbrev pub first_over : NodeOver → Moment
first_over over = moment_after over.setting over.sub over.clock over.past

-- whether the node gives at the first instant of its stretch: it offers a cell and is demanded, so that it goes on
abbrev pub gives_over : NodeOver → Bool
gives_over over = gives (first_over over) over.i

-- what the operator of the node does: play a leaf, pick a child, mix, fade or read a buffer
abbrev pub work_over : NodeOver → Work
work_over over = work_at over.setting over.i over.node

-- what the node of this number has in its slot, a cell or nothing, j instants after the first instant of the stretch
abbrev pub lane_over : NodeOver → (j : ℕ) → ℕ → Slot
lane_over over j = lane over.setting over.sub over.clock over.past j
