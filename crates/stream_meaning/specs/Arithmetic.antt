-- What a node makes of its children's slots: sum, gain, mean, both sides.
use Rattle.std.specs.Prelude.{Bool, Some, None, List, [], ◌∷◌, ℕ, ℤ, pos, ◌+ℤ◌, length, if◌then◌else◌}
use Rattle.frame_core.specs.declared.cell.Cell.{Cell}
use Rattle.frame_core.specs.Slots.{Slot}
use Rattle.sample_kernels.specs.Samples.{clamped, half_of, mean_of, scaled}

-- the cells (samples of one instant) that these slots offer, in their order; empty slots are left out
abbrev pub cells_of : List Slot → List Cell
cells_of [] = []
cells_of (None ∷ slots) = cells_of slots
cells_of (Some cell ∷ slots) = cell ∷ cells_of slots

-- the sum of one number of each of these cells: `sample` takes the left or the right sample of a cell
abbrev pub total_by : (Cell → ℤ) → List Cell → ℤ
total_by sample [] = pos 0
total_by sample (cell ∷ cells) = sample cell +ℤ total_by sample cells

-- the sum of `parts` samples, made one sample again: where `normalize` holds their mean, otherwise the sum cut to the
-- range of a sample
abbrev pub levelled : Bool → ℕ → ℤ → ℤ
levelled normalize parts sum = if normalize then mean_of sum parts else clamped sum

-- the sum of these cells, or with `normalize` their mean, as one cell; whether it begins a track and its title are
-- those of the first cell; nothing without cells
abbrev pub summed_slot : Bool → List Cell → Slot
summed_slot normalize [] = None
summed_slot normalize (cell ∷ cells) = Some (record {
  left = levelled normalize (length (cell ∷ cells)) (total_by (λ c. c.left) (cell ∷ cells));
  right = levelled normalize (length (cell ∷ cells)) (total_by (λ c. c.right) (cell ∷ cells));
  first = cell.first;
  title = cell.title;
})

-- a cell, each of whose samples is multiplied by so many millionths
abbrev pub amplified : ℤ → Cell → Cell
amplified millionths cell =
    record {
      left = scaled millionths cell.left;
      right = scaled millionths cell.right;
      first = cell.first;
      title = cell.title;
    }

-- the mono cell of a stereo one: half the sum of its two samples
abbrev pub halved : Cell → Cell
halved cell = record { left = half_of cell.left cell.right; right = pos 0; first = cell.first; title = cell.title }

-- the stereo cell of a mono one: its sample on both sides
abbrev pub doubled : Cell → Cell
doubled cell = record { left = cell.left; right = cell.left; first = cell.first; title = cell.title }

-- how a node makes one cell of its children's: it adds them, to their mean or to a sum that is cut; it scales one by
-- millionths; it makes one mono, or stereo; or it passes it on
pub data Mixing : Type 0 where
  Adds : Bool → Mixing
  Scales : ℤ → Mixing
  Halves : Mixing
  Doubles : Mixing
  Passes : Mixing

-- what a node makes of the one cell that it gets; an adding node has it as it is
abbrev pub changed : Mixing → Cell → Cell
changed (Adds normalize) cell = cell
changed (Scales millionths) cell = amplified millionths cell
changed Halves cell = halved cell
changed Doubles cell = doubled cell
changed Passes cell = cell

-- what a node that works on one cell makes of these, those of its children: the first of them, changed; nothing
-- without any
abbrev pub changed_slot : Mixing → List Cell → Slot
changed_slot mixing [] = None
changed_slot mixing (cell ∷ cells) = Some (changed mixing cell)

-- what a node makes of the slots of its children, by those that offer
abbrev pub mix_slot : Mixing → List Slot → Slot
mix_slot (Adds normalize) slots = summed_slot normalize (cells_of slots)
mix_slot (Scales millionths) slots = changed_slot (Scales millionths) (cells_of slots)
mix_slot Halves slots = changed_slot Halves (cells_of slots)
mix_slot Doubles slots = changed_slot Doubles (cells_of slots)
mix_slot Passes slots = changed_slot Passes (cells_of slots)
