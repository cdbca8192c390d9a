-- A stretch of instants: behind its first one nothing begins.
use Rattle.std.specs.Prelude.{[], All, ◌≡◌, ◌<◌, ◌+◌, ◌%◌, Bool, true, false, Some, List, ◌∷◌, ◌++◌, ◌≤◌, ℕ, zero, suc, length, map, take, nat_eq, is_some, slice_get, if◌then◌else◌}
use Rattle.plan_core.specs.declared.node.Node.{Node}
use Rattle.clock_infer.specs.declared.clock_map.NodeClock.{NodeClock}
use Rattle.clock_infer.specs.declared.clock_map.NodeClock.TheVariants.{Sub}
use Rattle.frame_core.specs.Slots.{Slot, is_first, title_of, is_inner}
use Rattle.frame_core.specs.declared.cell.Cell.{Cell}
use Rattle.op_cross.specs.Runs.{item_of, run_of}
use Rattle.op_cross.specs.States.{AllInner}
use Rattle.op_leaf.specs.declared.leaf.Leaf.{Leaf}
use Rattle.op_leaf.specs.Leaves.{leaf_slot}
use Rattle.op_leaf.specs.Readers.{read_by, reader_slot}
use Rattle.stream_meaning.specs.Operators.{Work, Choice, Selects, TakesTurns, Eligible, Plays, Picks, Mixes, Fades, Reads, marks_at}
use Rattle.stream_meaning.specs.Instants.{Setting, Moment, choices, gives_before, demanded, gives, first_instants, last_pick, lies_in, moment_after, offer, part_at, parts_upto, position, reading_after, reading_at, second_at, slots_at, work_at}
use Rattle.stream_meaning.specs.Calls.{calls_of}
use Rattle.stretch_laws.specs.Steady.{Follows, IsFree}

-- The past of a clock after j instants more: their moments, the latest first, and then `past`. A moment is what all
-- nodes do at one instant. `sub` has the slots that sub-clocks make for each crossfade.
abbrev pub going_on : Setting → (sub : ℕ → ℕ → List Slot) → NodeClock → ℕ → List Moment → List Moment
going_on setting sub clock zero past = past
going_on setting sub clock (suc j) past =
    let later = going_on setting sub clock j past in moment_after setting sub clock later ∷ later

-- `node` is node i of the plan of `setting`, and it goes on with this clock
pub record IsNode (setting : Setting) (clock : NodeClock) (i : ℕ) (node : Node) : Type 0 where
  pub there : slice_get setting.plan.nodes i ≡ Some node
  pub inside : lies_in setting clock i ≡ true

-- A later moment, which is what all nodes do at one instant, is like the first one of a stretch. The same nodes offer,
-- are demanded and give, those demanded pick the same child, and none that gives begins a track.
pub record IsLike (first later : Moment) : Type 0 where
  pub demands : later.demands ≡ first.demands
  pub slots : (i : ℕ) → Follows (offer first i) (offer later i)
  pub picks : (i : ℕ) → demanded first i ≡ true → (part_at later.parts i).pick ≡ (part_at first.parts i).pick
  pub inner : (i : ℕ) → gives first i ≡ true → is_inner (offer later i) ≡ true

-- Node i, which does this work, has this title j instants into a stretch; the title is the number of the file from
-- which a cell came. A node that only passes on cells of its children needs nothing. `past` is what was before, and
-- `sub` the slots of sub-clocks.
abbrev pub KeepsTitle : Setting → (sub : ℕ → ℕ → List Slot) → List Moment → (i : ℕ) → Work → (j title : ℕ) → Type 0
KeepsTitle setting sub past i (Plays leaf) j title = title_of (leaf_slot setting.library leaf (gives_before past i + j))
    ≡ title
KeepsTitle setting sub past i (Picks choice eligible) j title = Unit {0}
KeepsTitle setting sub past i (Mixes mixing) j title = Unit {0}
KeepsTitle setting sub past i (Fades overlap) j title = title_of (item_of overlap (sub i) (position past i + j)) ≡ title
KeepsTitle setting sub past i (Reads buffer) j title =
    title_of (reader_slot (read_by j
    (reading_at setting buffer (length past) (reading_after setting i buffer past)).reader)) ≡ title

-- The next `instants` instants of a clock are decided by their first one: after it no node that gives begins a track or
-- changes its title, no predicate changes, and no tick begins for a reader. `past` is what was before. `sub` has the
-- slots that sub-clocks make for each crossfade.
pub record IsStretch (setting : Setting) (sub : ℕ → ℕ
    → List Slot) (clock : NodeClock) (past : List Moment) (instants : ℕ) : Type 0 where
  -- leaves that give go on with their track
  pub leaves : (i : ℕ) (node : Node) (leaf : Leaf) (j : ℕ) → IsNode setting clock i node
      → work_at setting i node ≡ Plays leaf → 0 < j → j < instants
      → gives (moment_after setting sub clock past) i ≡ true
      → is_inner (leaf_slot setting.library leaf (gives_before past i + j)) ≡ true
  -- no tick begins where there is a reader
  pub ticks : (i : ℕ) (node : Node) (buffer j : ℕ) → IsNode setting clock i node → work_at setting i node ≡ Reads buffer
      → 0 < j → j < instants
      → nat_eq ((length past + j) % setting.plan.frame) 0 ≡ false
  -- readers that give go on
  pub readers : (i : ℕ) (node : Node) (buffer j : ℕ) → IsNode setting clock i node
      → work_at setting i node ≡ Reads buffer → 0 < j → j < instants
      → gives (moment_after setting sub clock past) i ≡ true
      → is_inner (reader_slot (read_by j
      (reading_at setting buffer (length past) (reading_after setting i buffer past)).reader)) ≡ true
  -- no item of a crossfade is empty, and of those that give the next items begin no track
  pub items : (i : ℕ) (node : Node) (overlap j : ℕ) → IsNode setting clock i node
      → work_at setting i node ≡ Fades overlap → 0 < j → j < instants
      → is_some (offer (moment_after setting sub clock past) i) ≡ true
  pub settled : (i : ℕ) (node : Node) (overlap j : ℕ) → IsNode setting clock i node
      → work_at setting i node ≡ Fades overlap → 0 < j → j < instants
      → gives (moment_after setting sub clock past) i ≡ true
      → is_inner (item_of overlap (sub i) (position past i + j)) ≡ true
  -- no predicate changes
  pub marks : (i : ℕ) (node : Node) (choice : Choice) (eligible : Eligible) (j children : ℕ)
      → IsNode setting clock i node → work_at setting i node ≡ Picks choice eligible → 0 < j → j < instants
      → marks_at eligible (second_at setting (length past + j)) children
      ≡ marks_at eligible (second_at setting (length past)) children
  -- a selection names a child where the one used last begins a track
  pub free : (i : ℕ) (node : Node) (choice : Choice) (eligible : Eligible) (j : ℕ) → IsNode setting clock i node
      → work_at setting i node ≡ Picks choice eligible → 0 < j → j < instants
      → IsFree choice (slots_at (parts_upto setting sub clock past i) node.children)
      (marks_at eligible (second_at setting (length past))
      (length (slots_at (parts_upto setting sub clock past i) node.children))) (last_pick past i)
  -- leaves, readers and crossfades that give keep their title
  pub titles : (i : ℕ) (node : Node) (j : ℕ) → IsNode setting clock i node → 0 < j → j < instants
      → gives (moment_after setting sub clock past) i ≡ true
      → KeepsTitle setting sub past i (work_at setting i node) j
      (title_of (offer (moment_after setting sub clock past) i))

-- What the nodes of a clock go by, j instants into a stretch, follows from its first instant: how many cells a leaf
-- gave, which child was picked, how many choices were made, and where crossfades and readers are. `later` is the past
-- by then, and `past` that before the stretch.
pub record IsOn (setting : Setting) (sub : ℕ → ℕ
    → List Slot) (clock : NodeClock) (past : List Moment) (j : ℕ) (later : List Moment) : Type 0 where
  pub long : length later ≡ length past + j
  pub given : (i : ℕ) → gives (moment_after setting sub clock past) i ≡ true
      → gives_before later i ≡ gives_before past i + j
  pub kept : (i : ℕ) → gives (moment_after setting sub clock past) i ≡ false
      → gives_before later i ≡ gives_before past i
  pub picked : (i : ℕ) → gives (moment_after setting sub clock past) i ≡ true → 0 < j
      → last_pick later i ≡ (part_at (moment_after setting sub clock past).parts i).pick
  pub stayed : (i : ℕ) → gives (moment_after setting sub clock past) i ≡ false → last_pick later i ≡ last_pick past i
  pub chosen : (i : ℕ) → gives (moment_after setting sub clock past) i ≡ true → 0 < j
      → choices later i ≡ (if is_first (offer (moment_after setting sub clock past) i) then suc (choices past i)
      else choices past i)
  pub unchosen : (i : ℕ) → gives (moment_after setting sub clock past) i ≡ false → choices later i ≡ choices past i
  pub passed : (i : ℕ) → gives (moment_after setting sub clock past) i ≡ true → position later i ≡ position past i + j
  pub held : (i : ℕ) → gives (moment_after setting sub clock past) i ≡ false
      → is_some (offer (moment_after setting sub clock past) i) ≡ true → position later i ≡ position past i
  pub read : (i : ℕ) (node : Node) (buffer : ℕ) → IsNode setting clock i node → work_at setting i node ≡ Reads buffer
      → 0 < j → gives (moment_after setting sub clock past) i ≡ true
      → (reading_after setting i buffer later).reader
      ≡ read_by j (reading_at setting buffer (length past) (reading_after setting i buffer past)).reader
  pub unread : (i : ℕ) (node : Node) (buffer : ℕ) → IsNode setting clock i node → work_at setting i node ≡ Reads buffer
      → 0 < j → gives (moment_after setting sub clock past) i ≡ false
      → (reading_after setting i buffer later).reader
      ≡ (reading_at setting buffer (length past) (reading_after setting i buffer past)).reader

-- The slots that a sub-clock makes for crossfade k, behind its first n, are `count` cells of one title that begin no
-- track. `sub` gives the first slots of each sub-clock, as many as are asked for. The title is the number of a file.
pub record AreFilled (setting : Setting) (sub : ℕ → ℕ → List Slot) (k n count title : ℕ) : Type 0 where
  pub cells : List Cell
  pub inner : AllInner cells
  pub titled : All (λ cell. cell.title ≡ title) cells
  pub long : length cells ≡ count
  pub filled : (m : ℕ) → m ≤ count → sub k (n + m) ≡ sub k n ++ map Some (take m cells)

-- What node i has in its slot, a cell or nothing, j instants after the first instant that follows `past`. `sub` has the
-- slots that sub-clocks make for each crossfade.
abbrev pub lane : Setting → (sub : ℕ → ℕ → List Slot) → NodeClock → List Moment → (j i : ℕ) → Slot
lane setting sub clock past j i = offer (moment_after setting sub clock (going_on setting sub clock j past)) i

-- Node i, which does this work, goes on as at the instant `moment` for `rest` instants more, so that what it plays
-- begins no track. `past` is what was before, and `sub` the slots of sub-clocks. `begins`: the child that a selection
-- used last begins a track.
abbrev pub NodeGoes : Setting → (sub : ℕ → ℕ → List Slot) → List Moment → Moment → (i : ℕ) → Work → (begins : Bool)
    → (rest : ℕ) → Type 0
NodeGoes setting sub past moment i (Plays leaf) begins rest =
    gives moment i ≡ true → (j : ℕ) → j < rest
    → is_inner (leaf_slot setting.library leaf (suc (gives_before past i) + j)) ≡ true
NodeGoes setting sub past moment i (Picks (Selects rule) eligible) begins rest = 0 < rest
    → is_some (offer moment i) ≡ false → begins ≡ false
NodeGoes setting sub past moment i (Picks (TakesTurns turn) eligible) begins rest = Unit {0}
NodeGoes setting sub past moment i (Mixes mixing) begins rest = Unit {0}
NodeGoes setting sub past moment i (Fades overlap) begins rest =
    (0 < rest → is_some (offer moment i) ≡ true)
    × (gives moment i ≡ true → (j : ℕ) → j < rest
    → is_inner (item_of overlap (sub i) (suc (position past i) + j)) ≡ true)
NodeGoes setting sub past moment i (Reads buffer) begins rest =
    gives moment i ≡ true → (j : ℕ) → j < rest
    → is_inner (reader_slot (read_by (suc j)
    (reading_at setting buffer (length past) (reading_after setting i buffer past)).reader)) ≡ true

-- If node i, which does this work, gives a cell at the instant `moment`, it has the title of that cell for `rest`
-- instants more. The title is the number of a file. `past` is what was before, and `sub` has the slots of sub-clocks.
abbrev pub NodeKeeps : Setting → (sub : ℕ → ℕ → List Slot) → List Moment → Moment → (i : ℕ) → Work → (rest : ℕ) → Type 0
NodeKeeps setting sub past moment i (Plays leaf) rest =
    gives moment i ≡ true → (j : ℕ) → j < rest
    → title_of (leaf_slot setting.library leaf (suc (gives_before past i) + j)) ≡ title_of (offer moment i)
NodeKeeps setting sub past moment i (Picks choice eligible) rest = Unit {0}
NodeKeeps setting sub past moment i (Mixes mixing) rest = Unit {0}
NodeKeeps setting sub past moment i (Fades overlap) rest =
    gives moment i ≡ true → (j : ℕ) → j < rest → title_of (item_of overlap (sub i) (suc (position past i) + j))
    ≡ title_of (offer moment i)
NodeKeeps setting sub past moment i (Reads buffer) rest =
    gives moment i ≡ true → (j : ℕ) → j < rest
    → title_of (reader_slot (read_by (suc j)
    (reading_at setting buffer (length past) (reading_after setting i buffer past)).reader)) ≡ title_of (offer moment i)

-- Over a stretch of `instants` instants the sub-clocks of crossfades call no buffer. For each instant after the first
-- they make only such instants of their own as put nothing and take nothing. `past` is what was before, and `sub` the
-- slots of sub-clocks.
pub record AreQuiet (setting : Setting) (sub : ℕ → ℕ
    → List Slot) (clock : NodeClock) (past : List Moment) (instants : ℕ) : Type 0 where
  pub each : (k : ℕ) (node : Node) (overlap i m : ℕ) → IsNode setting clock k node
      → work_at setting k node ≡ Fades overlap
      → gives (moment_after setting sub clock past) k ≡ true → suc i < instants
      → run_of overlap (sub k) (position past k + i) ≤ m → m < run_of overlap (sub k) (position past k + suc i)
      → calls_of setting sub (Sub k) (first_instants setting sub (Sub k) m) ≡ []
