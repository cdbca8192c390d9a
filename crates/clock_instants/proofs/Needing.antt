-- What a crossfade has asked for behind a run, and what its sub-clock makes for it.
use Rattle.std.proofs.Common.{◌≡◌, ◌∷◌, ℕ, suc, Some, List, length, slice_get}
use Rattle.plan_core.specs.declared.node.Node.{Node}
use Rattle.plan_core.specs.Plans.{AreNodes}
use Rattle.clock_infer.specs.declared.clock_map.NodeClock.{NodeClock}
use Rattle.frame_core.specs.Slots.{Slot}
use Rattle.stream_meaning.specs.Operators.{Fades}
use Rattle.stream_meaning.specs.Instants.{Setting, Moment, moment_after, work_at}
use Rattle.stream_meaning.specs.Calls.{ran_by}
use Rattle.stretch_laws.specs.Stretches.{IsNode, IsStretch}
use Rattle.node_states.specs.declared.state.NodeState.{NodeState}
use Rattle.node_states.specs.Passing.{asked}
use Rattle.clock_instants.specs.Held.{AllAsk}

module _ (setting : Setting) (sub : ℕ → ℕ → List Slot) (clock : NodeClock) (past : List Moment) (rest : ℕ) (nodes : AreNodes setting.plan.nodes) (stretch : IsStretch setting sub clock past (suc rest))
    (filled : ℕ → ℕ) (states : List NodeState) (asks : AllAsk setting sub clock past filled states (length setting.clocks) rest) (in_clocks : length setting.clocks ≡ length setting.plan.nodes)
    (k overlap : ℕ) (node : Node) (state : NodeState) (is : IsNode setting clock k node) (at : work_at setting k node ≡ Fades overlap) (found : slice_get states k ≡ Some state)
    (now : ran_by sub k overlap (moment_after setting sub clock past ∷ past) ≡ filled k) where
  abbrev First : Moment
  First = moment_after setting sub clock past
