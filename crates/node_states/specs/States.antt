-- For what the state of a node stands. A past is a list of the instants of the node's clock, the latest first; `sub k
-- m` are the first m slots of the child of crossfade k.
use Rattle.std.specs.Prelude.{◌≡◌, ⊤, ◌<◌, ◌≤◌, Bool, true, false, Option, Some, None, List, ℕ, suc, length, nat_eq, slice_get, if◌then◌else◌}
use Rattle.frame_core.specs.Library.{Sounds}
use Rattle.frame_core.specs.Slots.{Slot}
use Rattle.op_leaf.specs.declared.leaf.Leaf.{Leaf as TheLeaf}
use Rattle.op_leaf.specs.declared.leaf.LeafState.{LeafState}
use Rattle.op_leaf.specs.Standing.{leaf_of, IsPlacedIn, StandsAt}
use Rattle.op_select.specs.declared.rule.Rule.{Rule}
use Rattle.op_select.specs.Selection.{Selection}
use Rattle.op_turn.specs.Turns.{Turning, StandsFor as TurnStandsFor}
use Rattle.op_cross.specs.Crossfade.{cross}
use Rattle.op_cross.specs.Runs.{run_of}
use Rattle.op_cross.specs.States.{Crossing, StandsFor, track_room, wants as crossing_wants, left as crossing_left}
use Rattle.stream_meaning.specs.Operators.{Choice, Selects, TakesTurns, Work, Plays, Picks, Mixes, Fades, Reads}
use Rattle.plan_core.specs.declared.node.Node.{Node}
use Rattle.stream_meaning.specs.Instants.{Setting, Moment, Reading, choices, gives_before, last_pick, position, reading_after, reading_at, work_at}
use Rattle.op_mix.specs.Mixings.{mixing_of}
use Rattle.node_states.specs.declared.state.NodeState.{NodeState}
use Rattle.node_states.specs.declared.state.NodeState.TheVariants.{Leaf, Select, Turn, Mix, Cross, Read, Idle}

-- a state of a leaf is the one that this leaf has after it gave so many cells
pub record LeafStands (library : Sounds) (leaf : TheLeaf) (given : ℕ) (state : LeafState) : Type 0 where
  pub plays : leaf_of state ≡ leaf
  pub stands : StandsAt library state given

-- a state of a fallback, a switch or a sequence has this rule, and knows the child that it used when it last gave
pub record SelectStands (rule : Rule) (last : Option ℕ) (state : Selection) : Type 0 where
  pub rule_is : state.rule ≡ rule
  pub last_is : state.last ≡ last

-- the choice of a node is by a rule; its state knows the child that it used when it last gave
abbrev pub HasSelected : Choice → (last : Option ℕ) → Selection → Type 0
HasSelected (Selects rule) last state = SelectStands rule last state
HasSelected (TakesTurns turn) last state = ⊥

-- The choice of a node is by turns, a rotate or a random; its state stands for so many choices, and for the child that
-- was used when the node last gave.
abbrev pub HasTurned : Choice → (last : Option ℕ) → (choices : ℕ) → Turning → Type 0
HasTurned (Selects rule) last choices state = ⊥
HasTurned (TakesTurns turn) last choices state = TurnStandsFor turn (record { last = last; choices = choices }) state

-- A crossfade with this overlap, that was given the first `filled` slots of its child, is at item p, counted from 0;
-- fewer slots do not settle that item. `slots m` are the first m slots of the child.
pub record CrossStands (slots : ℕ → List Slot) (filled p overlap : ℕ) (state : Crossing) : Type 0 where
  pub overlap_is : state.overlap ≡ overlap
  pub stands : StandsFor state (slots filled) p
  pub least : (m : ℕ) → m < filled → length (cross overlap (slots m)) ≤ p

-- what the reader of a buffer has after this past: before the takes of the next instant, if it has begun no instant
-- more than the past has, and otherwise after them
abbrev pub reading_by : Setting → (i buffer : ℕ) → List Moment → (begun : ℕ) → Reading
reading_by setting i buffer past begun =
    if nat_eq begun (length past) then reading_after setting i buffer past
    else reading_at setting buffer (length past) (reading_after setting i buffer past)

-- the state is the one that node i, which does this work, has after this past; `filled` is how many slots of its child
-- a crossfade was given, or how many instants a reader has begun. An idle state stands for no past
abbrev pub StateStands : Setting → (sub : ℕ → ℕ → List Slot) → List Moment → (filled i : ℕ) → Work → NodeState → Type 0
StateStands setting sub past filled i (Plays leaf) (Leaf state) = LeafStands setting.library leaf (gives_before past i)
    state
StateStands setting sub past filled i (Picks choice eligible) (Select state) = HasSelected choice (last_pick past i)
    state
StateStands setting sub past filled i (Picks choice eligible) (Turn state) = HasTurned choice (last_pick past i)
    (choices past i) state
StateStands setting sub past filled i (Mixes mixing) (Mix mixer) = mixing_of mixer ≡ mixing
StateStands setting sub past filled i (Fades overlap) (Cross state) = CrossStands (sub i) filled (position past i)
    overlap state
StateStands setting sub past filled i (Reads buffer) (Read reader) = reader
    ≡ (reading_by setting i buffer past filled).reader
StateStands setting sub past filled i work state = ⊥

-- node i can make the instant after this past: the first `filled` slots of its child settle the item of a crossfade,
-- and a reader has begun that instant; any other node always can
abbrev pub IsSettled : (sub : ℕ → ℕ → List Slot) → List Moment → (filled i : ℕ) → Work → Type 0
IsSettled sub past filled i (Plays leaf) = ⊤
IsSettled sub past filled i (Picks choice eligible) = ⊤
IsSettled sub past filled i (Mixes mixing) = ⊤
IsSettled sub past filled i (Fades overlap) = position past i < length (cross overlap (sub i filled))
IsSettled sub past filled i (Reads buffer) = filled ≡ suc (length past)

-- the work is that of a crossfade whose item after this past needs more than the first `filled` slots of its child
abbrev pub FadesOn : (sub : ℕ → ℕ → List Slot) → List Moment → (filled i : ℕ) → Work → Type 0
FadesOn sub past filled i (Plays leaf) = ⊥
FadesOn sub past filled i (Picks choice eligible) = ⊥
FadesOn sub past filled i (Mixes mixing) = ⊥
FadesOn sub past filled i (Fades overlap) = filled < run_of overlap (sub i) (position past i)
FadesOn sub past filled i (Reads buffer) = ⊥

-- the first m slots of the child of each crossfade are a list of m: an instant of a sub-clock adds one slot
pub record AreLong (sub : ℕ → ℕ → List Slot) : Type 0 where
  pub each : (k m : ℕ) → length (sub k m) ≡ m

-- A state is one that a node with so many children may have, in a plan with these audio files: that of a leaf is at a
-- place that they have, that of a selection counts as many children, and any other may be had.
abbrev pub Fits : Sounds → (children : ℕ) → NodeState → Type 0
Fits library children (Leaf state) = IsPlacedIn library state
Fits library children (Select state) = state.children ≡ children
Fits library children (Turn state) = state.children ≡ children
Fits library children (Mix mixer) = ⊤
Fits library children (Cross state) = ⊤
Fits library children (Read reader) = ⊤
Fits library children Idle = ⊤

-- whether a state is that of a crossfade that needs another slot of its child, since its next item is not settled yet
abbrev pub wants : NodeState → Bool
wants (Leaf state) = false
wants (Select state) = false
wants (Turn state) = false
wants (Mix mixer) = false
wants (Cross state) = crossing_wants state
wants (Read reader) = false
wants Idle = false

-- a bound on how many slots of its child a crossfade takes before its item is settled; 0 for other nodes
abbrev pub left : NodeState → ℕ
left (Leaf state) = 0
left (Select state) = 0
left (Turn state) = 0
left (Mix mixer) = 0
left (Cross state) = crossing_left state
left (Read reader) = 0
left Idle = 0

-- how many cells of its child's running track settle a crossfade's item; 0 if it is settled, and for other nodes
abbrev pub room : NodeState → ℕ
room (Leaf state) = 0
room (Select state) = 0
room (Turn state) = 0
room (Mix mixer) = 0
room (Cross state) = if crossing_wants state then track_room state else 0
room (Read reader) = 0
room Idle = 0

-- whether a node's work is to read a buffer
abbrev pub reads : Work → Bool
reads (Plays leaf) = false
reads (Picks choice eligible) = false
reads (Mixes mixing) = false
reads (Fades overlap) = false
reads (Reads buffer) = true

-- whether node i reads a buffer, if there is such a node
abbrev pub reads_in : Setting → ℕ → Option Node → Bool
reads_in setting i None = false
reads_in setting i (Some node) = reads (work_at setting i node)

-- whether node i of the plan reads a buffer
abbrev pub reads_at : Setting → ℕ → Bool
reads_at setting i = reads_in setting i (slice_get setting.plan.nodes i)
