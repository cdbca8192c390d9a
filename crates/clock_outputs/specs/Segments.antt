-- The slots of a node in a segment, which is an instant and a run of further ones, over which the node goes on as it
-- did.
use Rattle.std.specs.Prelude.{ℕ, suc, ℤ, Some, None, List, ◌∷◌, map, replicate}
use Rattle.frame_core.specs.Slots.{Slot}
use Rattle.cell_ring.specs.Rings.{inner_cells}

-- The slots of a node at an instant and `many` instants after it, over which the node goes on as it did. The first is
-- given; then come cells of its title with these samples, of which none begins a track. If the first is empty, all are.
abbrev pub segment_slots : Slot → (many : ℕ) → (lefts rights : List ℤ) → List Slot
segment_slots None many lefts rights = replicate (suc many) None
segment_slots (Some cell) many lefts rights = Some cell ∷ map Some (inner_cells cell.title lefts rights)
