-- How far a node goes on behind an instant, and with it its clock.
use Rattle.std.specs.Prelude.{◌≡◌, ◌<◌, ◌≤◌, ◌+◌, ◌/◌, ◌%◌, Bool, true, false, Option, Some, None, List, ◌∷◌, ℕ, suc, length, is_some, nat_eq}
use Rattle.liq_base.specs.declared.memory.Kind.{Kind}
use Rattle.plan_core.specs.declared.node.Node.{Node}
use Rattle.plan_core.specs.declared.node.Op.{Op}
use Rattle.clock_infer.specs.declared.clock_map.NodeClock.{NodeClock}
use Rattle.frame_core.specs.Slots.{Slot, slot_at, is_first, title_of, is_inner}
use Rattle.op_cross.specs.Runs.{item_of, run_of}
use Rattle.op_leaf.specs.declared.leaf.Leaf.{Leaf}
use Rattle.op_leaf.specs.Leaves.{leaf_slot}
use Rattle.op_leaf.specs.Readers.{read_by, reader_slot}
use Rattle.stream_meaning.specs.declared.part.Part.{Part}
use Rattle.stream_meaning.specs.Operators.{Choice, Eligible, Plays, Picks, Fades, Reads, marks_at, work_of}
use Rattle.stream_meaning.specs.Instants.{Setting, Moment, gives_before, gives, last_pick, moment_after, offer, parts_upto, position, reading_after, reading_at, second_at, slots_at, work_at}
use Rattle.stretch_laws.specs.Steady.{IsFree}
use Rattle.stretch_laws.specs.Stretches.{AreFilled, IsNode, KeepsTitle}
use Rattle.node_states.specs.declared.state.NodeState.{NodeState}
use Rattle.node_states.specs.Passing.{asked, passes}
use Rattle.node_states.specs.States.{AreLong, StateStands}
use Rattle.node_states.specs.Times.{TimeStands}
use Rattle.node_states.specs.declared.time.WeekTime.{WeekTime}
use Rattle.clock_nodes.specs.declared.scene.Scene.{Scene}
use Rattle.clock_nodes.specs.Scenes.{setting_over}

-- whether the child at this place of a node's list `children` offers the first cell of a track, by `parts`, what all
-- nodes offer; false without a place
abbrev pub begins_at : List Part → List ℕ → Option ℕ → Bool
begins_at parts children None = false
begins_at parts children (Some place) = is_first (slot_at (slots_at parts children) place)

-- node i goes on for `rest` instants as at the one after this past: what it plays stays in one track and under one
-- title, no tick begins for a reader, and its eligible children and the child that it picked stay the same
pub record NodeStretches (setting : Setting) (sub : ℕ → ℕ
    → List Slot) (clock : NodeClock) (past : List Moment) (i : ℕ) (node : Node) (rest : ℕ) : Type 0 where
  pub leaves : (leaf : Leaf) (j : ℕ) → work_at setting i node ≡ Plays leaf → 0 < j → j ≤ rest
      → gives (moment_after setting sub clock past) i ≡ true
      → is_inner (leaf_slot setting.library leaf (gives_before past i + j)) ≡ true
  pub ticks : (buffer j : ℕ) → work_at setting i node ≡ Reads buffer → 0 < j → j ≤ rest
      → nat_eq ((length past + j) % setting.plan.frame) 0 ≡ false
  pub readers : (buffer j : ℕ) → work_at setting i node ≡ Reads buffer → 0 < j → j ≤ rest
      → gives (moment_after setting sub clock past) i ≡ true
      → is_inner (reader_slot (read_by j
      (reading_at setting buffer (length past) (reading_after setting i buffer past)).reader)) ≡ true
  pub items : (overlap : ℕ) → work_at setting i node ≡ Fades overlap → 0 < rest
      → is_some (offer (moment_after setting sub clock past) i) ≡ true
  pub settled : (overlap j : ℕ) → work_at setting i node ≡ Fades overlap → 0 < j → j ≤ rest
      → gives (moment_after setting sub clock past) i ≡ true
      → is_inner (item_of overlap (sub i) (position past i + j)) ≡ true
  pub marks : (choice : Choice) (eligible : Eligible) (j children : ℕ) → work_at setting i node ≡ Picks choice eligible
      → 0 < j → j ≤ rest
      → marks_at eligible (second_at setting (length past + j)) children
      ≡ marks_at eligible (second_at setting (length past)) children
  pub free : (choice : Choice) (eligible : Eligible) → work_at setting i node ≡ Picks choice eligible → 0 < rest
      → IsFree choice (slots_at (parts_upto setting sub clock past i) node.children)
      (marks_at eligible (second_at setting (length past))
      (length (slots_at (parts_upto setting sub clock past i) node.children))) (last_pick past i)
  pub titles : (j : ℕ) → 0 < j → j ≤ rest → gives (moment_after setting sub clock past) i ≡ true
      → KeepsTitle setting sub past i (work_at setting i node) j
      (title_of (offer (moment_after setting sub clock past) i))

-- each reader of a clock has begun n instants, by `filled`, which counts them by node
pub record AreReadTo (setting : Setting) (clock : NodeClock) (filled : ℕ → ℕ) (n : ℕ) : Type 0 where
  pub each : (i : ℕ) (node : Node) (buffer : ℕ) → IsNode setting clock i node → work_at setting i node ≡ Reads buffer
      → filled i ≡ n

-- For `rest` instants after one at this time, the same children of a node with this operator may be chosen. The second
-- of the week, for which the predicates of a switch ask, changes nothing.
pub record MarksStay (op : Op) (time : WeekTime) (rest : ℕ) : Type 0 where
  pub each : (rate i : ℕ) (kind : Kind) (choice : Choice) (eligible : Eligible) (start n j children : ℕ)
      → work_of rate i kind op ≡ Picks choice eligible → TimeStands start n time → j ≤ rest
      → marks_at eligible ((start + (n + j) / time.rate) % 604800) children
      ≡ marks_at eligible ((start + n / time.rate) % 604800) children

-- the `tick` instants after instant n lie in the same tick, the group of instants that a clock makes at once
pub record IsSameTick (setting : Setting) (n tick : ℕ) : Type 0 where
  pub each : (j : ℕ) → 0 < j → j ≤ tick → nat_eq ((n + j) % setting.plan.frame) 0 ≡ false

-- Node i, which gave `held` at the latest instant, where nodes did `parts`, goes on for `rest` instants in the same
-- way, whatever instants `state` stood for. Its sub-clock goes on for `below` instants under title `below_title`, and
-- its tick for `tick` more. A crossfade asks in each for one slot where cells pass, else for none.
pub record NodeGoesOn (scene : Scene) (i : ℕ) (parts : List Part) (held : Part) (state : NodeState)
    (below below_title : ℕ) (time : WeekTime) (tick rest : ℕ) : Type 0 where
  pub goes : (other : Setting) (sub : ℕ → ℕ
      → List Slot) (clock : NodeClock) (past : List Moment) (filled : ℕ) (node : Node) →
      let setting = setting_over scene other in
      AreLong sub → IsNode setting clock i node → StateStands setting sub (moment_after setting sub clock past
      ∷ past) filled i (work_at setting i node) state
      → parts ≡ (moment_after setting sub clock past).parts
      → gives (moment_after setting sub clock past) i ≡ is_some held.slot
      → ((buffer : ℕ) → work_at setting i node ≡ Reads buffer → filled ≡ suc (length past))
      → (is_some held.slot ≡ true → passes state ≡ true → AreFilled setting sub i filled below below_title)
      → TimeStands setting.start (length past) time → IsSameTick setting (length past) tick
      → NodeStretches setting sub clock past i node rest
  pub asks : (setting : Setting) (sub : ℕ → ℕ → List Slot) (past : List Moment) (moment : Moment) (filled overlap j : ℕ)
      → AreLong sub → StateStands setting sub (moment ∷ past) filled i (Fades overlap) state
      → gives moment i ≡ is_some held.slot → is_some held.slot ≡ true
      → (passes state ≡ true → AreFilled setting sub i filled below below_title) → j < rest
      → run_of overlap (sub i) (suc (position past i) + j) ≡ filled + asked (passes state) j
