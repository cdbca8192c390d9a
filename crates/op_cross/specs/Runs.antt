-- How far the child of a crossfade has run, and the item that is offered.
use Rattle.std.specs.Prelude.{Bool, List, ℕ, zero, suc, ◌+◌, ◌*◌, length, nat_lt, if◌then◌else◌}
use Rattle.frame_core.specs.Slots.{Slot, slot_at}
use Rattle.op_cross.specs.Crossfade.{cross}

-- the least of the numbers `at`, `at + 1` and so on that passes the test, among the first so many of them (the last
-- argument); the number behind these where none passes
abbrev pub least_from : (ℕ → Bool) → ℕ → ℕ → ℕ
least_from test at zero = at
least_from test at (suc most) = if test at then at else least_from test (suc at) most

-- How many slots a crossfade's source must give before item p of the crossfade's output is settled (no later slot
-- changes it). `slots m` are the first m slots of the source, and `overlap` is the most cells that tracks overlap.
abbrev pub run_of : ℕ → (ℕ → List Slot) → ℕ → ℕ
run_of overlap slots p = least_from (λ m. nat_lt p (length (cross overlap (slots m)))) 0 (2 * p + 2 * overlap + 2)

-- Item p of a crossfade's output, found from as few slots of its source as settle it. `slots m` are the first m slots
-- of the source, and `overlap` is the most cells that tracks overlap.
abbrev pub item_of : ℕ → (ℕ → List Slot) → ℕ → Slot
item_of overlap slots p = slot_at (cross overlap (slots (run_of overlap slots p))) p
