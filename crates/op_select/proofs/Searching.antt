-- The search for a child, one child at a time.
use Rattle.std.proofs.Common.{◌≡◌, ◌<◌, ◌+◌, ◌&&◌, ℕ, Bool, false, None, List, length, get_or, drop, is_some, add-one, refl}
use Rattle.std.proofs.Math.Seq.{drop-cons}
use Rattle.frame_core.specs.Slots.{Slot}
use Rattle.op_select.specs.Selection.{first_ready}

pub ready-later : (slots : List Slot) (eligible : List Bool) (child : ℕ) → child < length slots → child < length eligible →
    (get_or eligible child false && is_some (get_or slots child None)) ≡ false →
    first_ready (drop child slots) (drop child eligible) child ≡ first_ready (drop (child + 1) slots) (drop (child + 1) eligible) (child + 1)
ready-later slots eligible child within marked ready =
    rw (add-one, drop-cons slots child None within, drop-cons eligible child false marked, ready) refl
