-- The cells of a tick while they are made, and the cells in a list of slots.
use Rattle.std.specs.Prelude.{ℕ, Option, Some, None, List, [], ◌∷◌}
use Rattle.frame_core.specs.declared.cell.Cell.{Cell}

-- a tick in the making: the cells laid down so far, in order, and how many there may be
pub record Laid : Type 0 where
  pub cells : List Cell
  pub room : ℕ

-- the items that are there in a list of options, in order; the empty ones are left out
abbrev pub somes : {X : Type 0} → List (Option X) → List X
somes [] = []
somes (None ∷ options) = somes options
somes (Some x ∷ options) = x ∷ somes options

-- a list as an option: nothing if it is empty, such as the chunk of a tick without cells
abbrev pub some_list : {X : Type 0} → List X → Option (List X)
some_list [] = None
some_list (x ∷ xs) = Some (x ∷ xs)
