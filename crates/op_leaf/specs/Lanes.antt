-- A run of cells of one track; and a lane: the samples of a run of cells that begin no track.
use Rattle.std.specs.Prelude.{◌≡◌, ◌<◌, true, ℕ, ℤ, List, IsSome}
use Rattle.frame_core.specs.Slots.{Slot, title_of, is_inner}
use Rattle.op_leaf.specs.Inner.{lefts_of, rights_of}

-- The first `count` slots are cells that begin no track, and `left` and `right` are their samples. `slots` gives the
-- slot at a position.
pub record IsLane (slots : ℕ → Slot) (count : ℕ) (left right : List ℤ) : Type 0 where
  pub left_is : left ≡ lefts_of slots 0 count
  pub right_is : right ≡ rights_of slots 0 count
  pub inner : (j : ℕ) → j < count → is_inner (slots j) ≡ true

-- The first `count` slots are of one track: the first is a cell, and behind it are cells that begin no track. `slots`
-- gives the slot at a position.
pub record IsOneTrack (slots : ℕ → Slot) (count : ℕ) : Type 0 where
  pub here : IsSome (slots 0)
  pub inner : (j : ℕ) → 0 < j → j < count → is_inner (slots j) ≡ true

-- The first `count` slots have this title, the number of the file from which a cell came. `slots` gives the slot at a
-- position.
abbrev pub AreTitled : (slots : ℕ → Slot) → (count title : ℕ) → Type 0
AreTitled slots count title = (j : ℕ) → j < count → title_of (slots j) ≡ title
