-- A run: instants that go on as the one before them, all at once.
use Rattle.std.specs.Prelude.{◌≡◌, ⊤, ◌<◌, ◌≤◌, ◌+◌, ◌∷◌, Bool, true, false, Option, ℕ, suc, List, length, nat_eq, if◌then◌else◌}
use Rattle.std.specs.List.{list_any}
use Rattle.plan_core.specs.declared.node.Node.{Node}
use Rattle.plan_core.specs.Plans.{AreNodes}
use Rattle.frame_core.specs.Library.{Sounds}
use Rattle.frame_core.specs.Slots.{Slot, is_inner}
use Rattle.op_cross.specs.States.{passes as crossing_passes, ready_stretch}
use Rattle.op_leaf.specs.Inner.{LiesAhead as LeafLiesAhead}
use Rattle.op_leaf.specs.Readers.{read_by, reader_slot}
use Rattle.stream_meaning.specs.declared.part.Part.{Part}
use Rattle.stream_meaning.specs.Instants.{Moment, Setting, gives, part_at, work_at}
use Rattle.stream_meaning.specs.Operators.{Reads, Work}
use Rattle.stretch_laws.specs.Stretches.{AreFilled, IsNode, IsStretch}
use Rattle.op_mix.specs.declared.before.Before.{Before}
use Rattle.op_mix.specs.Stretches.{samples_of}
use Rattle.node_states.specs.declared.state.NodeState.{NodeState}
use Rattle.node_states.specs.declared.state.NodeState.TheVariants.{Leaf, Select, Turn, Mix, Cross, Read, Idle}
use Rattle.node_states.specs.Passing.{ChildFills, given_part, passes}
use Rattle.node_states.specs.Histories.{History, IsLaneOf, StandsOn, next_of}
use Rattle.node_states.specs.States.{AreLong, StateStands, reads}

-- the next `count` cells or items of a node that gives are there, and none of them begins a track; a crossfade through
-- which cells pass gets them from its child
abbrev pub LiesAhead : Sounds → NodeState → (count : ℕ) → Type 0
LiesAhead library (Leaf state) count = 0 < count → LeafLiesAhead library state count
LiesAhead library (Select state) count = ⊤
LiesAhead library (Turn state) count = ⊤
LiesAhead library (Mix mixer) count = ⊤
LiesAhead library (Cross state) count = crossing_passes state ≡ false → count ≤ ready_stretch state
LiesAhead library (Read reader) count = (j : ℕ) → j < count → is_inner (reader_slot (read_by j reader)) ≡ true
LiesAhead library Idle count = ⊤

-- node i, which is `node`, gives a cell at the next instant of its clock, and so at `many` instants after it, alike
pub record GoesOn (history : History) (many i : ℕ) (node : Node) : Type 0 where
  pub nodes : AreNodes history.setting.plan.nodes
  pub long : AreLong history.sub
  pub stretch : IsStretch history.setting history.sub history.clock history.past (suc many)
  pub is : IsNode history.setting history.clock i node
  pub gave : gives (next_of history) i ≡ true

-- how many slots a crossfade was given, or instants a reader has begun, after `many` instants more: as many more where
-- `reading` says that cells come in one by one, and otherwise as before
abbrev pub filled_on : Bool → (many filled : ℕ) → ℕ
filled_on reading many filled = if reading then filled + many else filled

-- Node i gives a cell at the next instant, which `state` has made already, and `many` instants go on as that one. A
-- reader has begun that instant. A crossfade that was given `filled` slots of its child, and through which cells pass,
-- gets those that `before` has of its child, with the title `below`.
pub record GivesOn (history : History) (many filled i : ℕ) (node : Node) (sounds : Sounds) (below : ℕ) (before : Before)
    (state : NodeState) : Type 0 where
  pub library : history.setting.library ≡ sounds
  pub goes_on : GoesOn history many i node
  pub begun : reads (work_at history.setting i node) ≡ true → filled ≡ suc (length history.past)
  pub supplied : passes state ≡ true
      → ChildFills (history.sub i) filled many below node.children before.left.now before.right.now
  pub stands : StandsOn history 1 filled i node state

-- `before` has what the children of node i gave at the next instant, and the samples of those that gave over the `many`
-- instants that go on as that one; `pick` is the place of the child that node i used there
pub record ChildrenGive (history : History) (many i : ℕ) (node : Node) (pick : Option ℕ)
    (before : Before) : Type 0 where
  pub given : (c : ℕ) → list_any (nat_eq c) node.children ≡ true
      → part_at before.parts.now c ≡ given_part (next_of history) c
  pub used : pick ≡ (part_at (next_of history).parts i).pick
  pub lanes : (c : ℕ) → list_any (nat_eq c) node.children ≡ true → gives (next_of history) c ≡ true
      → IsLaneOf history c many (samples_of before.left.now c many) (samples_of before.right.now c many)

-- A clock's latest instant with those before it, and the slots of its sub-clocks; and of one node i, how many slots of
-- its child a crossfade was given, or how many instants a reader has begun.
pub record Latest : Type 0 where
  pub setting : Setting
  pub sub : ℕ → ℕ → List Slot
  pub past : List Moment
  pub moment : Moment
  pub filled : ℕ
  pub i : ℕ

-- The state of node i, which does this work, is the one after the latest instant too, and `gave` says whether it gave a
-- cell there. If it gave and is a crossfade through which cells pass, `below` slots more of its child are there, with
-- this title.
pub record HasStood (latest : Latest) (work : Work) (gave : Bool) (below title : ℕ) (state : NodeState) : Type 0 where
  pub long : AreLong latest.sub
  pub stands : StateStands latest.setting latest.sub (latest.moment ∷ latest.past) latest.filled latest.i work state
  pub gave_is : gives latest.moment latest.i ≡ gave
  pub fills : gave ≡ true → passes state ≡ true
      → AreFilled latest.setting latest.sub latest.i latest.filled below title

-- The state of node i, which does this work, is the one after the latest instant, over these audio files. `part` is
-- what the node did there, and `gave` says whether it gave a cell. If it gave and is a crossfade through which cells
-- pass, `below` slots more of its child are there, with this title.
pub record HasRested (latest : Latest) (work : Work) (sounds : Sounds) (part : Part) (gave : Bool) (below title : ℕ)
    (state : NodeState) : Type 0 where
  pub library : latest.setting.library ≡ sounds
  pub begun : (buffer : ℕ) → work ≡ Reads buffer → latest.filled ≡ suc (length latest.past)
  pub part_is : part_at latest.moment.parts latest.i ≡ part
  pub stood : HasStood latest work gave below title state
