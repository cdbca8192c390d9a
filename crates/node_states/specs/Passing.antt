-- Crossfades through which cells of their child pass, one by one.
use Rattle.std.specs.Prelude.{◌≡◌, ◌<◌, ◌+◌, ◌++◌, ◌∷◌, Bool, true, false, Some, List, [], ℕ, suc, ℤ, slice_get, if◌then◌else◌}
use Rattle.frame_core.specs.declared.cell.Cell.{Cell}
use Rattle.frame_core.specs.Slots.{Slot}
use Rattle.cell_ring.specs.Rings.{inner_cells}
use Rattle.op_cross.specs.States.{passes as crossing_passes}
use Rattle.op_leaf.specs.Lanes.{AreTitled, IsLane}
use Rattle.stream_meaning.specs.declared.part.Part.{Part}
use Rattle.stream_meaning.specs.Instants.{Moment, gives, part_at, silent}
use Rattle.op_mix.specs.declared.before.Before.{Before}
use Rattle.op_mix.specs.Stretches.{Lanes, samples_of}
use Rattle.node_states.specs.declared.state.NodeState.{NodeState}
use Rattle.node_states.specs.declared.state.NodeState.TheVariants.{Leaf, Select, Turn, Mix, Cross, Read, Idle}

-- Whether a state is that of a crossfade through which cells of its child pass one by one. It holds as much of a track
-- as overlaps, and nothing else: each cell that goes on with it settles one item.
abbrev pub passes : NodeState → Bool
passes (Leaf state) = false
passes (Select state) = false
passes (Turn state) = false
passes (Mix mixer) = false
passes (Cross state) = crossing_passes state
passes (Read reader) = false
passes Idle = false

-- how many slots of its child a crossfade takes for the first items of a stretch, up to item j, counted from 0: one for
-- each where cells pass, and otherwise none
abbrev pub asked : (through : Bool) → (j : ℕ) → ℕ
asked true j = suc j
asked false j = 0

-- what node i did at an instant if it gave a cell there, and otherwise silence
abbrev pub given_part : Moment → ℕ → Part
given_part moment i = if gives moment i then part_at moment.parts i else silent

-- after the first n slots of a crossfade's child come `count` cells with this title, and with these samples on the left
-- and on the right; `slots_of m` are the first m slots of the child
pub record LaneFills (slots_of : ℕ → List Slot) (n count title : ℕ) (left right : List ℤ) : Type 0 where
  pub slots : ℕ → Slot
  pub lane : IsLane slots count left right
  pub titled : AreTitled slots count title
  pub filled : (m : ℕ) → m < count → slots_of (suc (n + m)) ≡ slots_of (n + m) ++ slots m ∷ []

-- After the first n slots of a crossfade's child, the first of these children, come `count` cells with this title.
-- Their samples are those that `lefts` and `rights` have of the child; `slots_of m` are the first m slots of it.
pub record ChildFills (slots_of : ℕ
    → List Slot) (n count title : ℕ) (children : List ℕ) (lefts rights : Lanes) : Type 0 where
  pub child : ℕ
  pub there : slice_get children 0 ≡ Some child
  pub fills : LaneFills slots_of n count title (samples_of lefts child count) (samples_of rights child count)

-- the samples that node i gave over so many instants, as cells of this title that begin no track
abbrev pub cells_before : (title : ℕ) → Before → (i count : ℕ) → List Cell
cells_before title before i count = inner_cells title (samples_of before.left.now i count)
    (samples_of before.right.now i count)
