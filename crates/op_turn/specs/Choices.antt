-- What a state uses, by what it keeps in place of a past. Contracts of private functions alone cite it.
use Rattle.std.specs.Prelude.{Option, Some, None, List, ℕ, if◌then◌else◌}
use Rattle.frame_core.specs.Slots.{Slot}
use Rattle.seed_words.specs.Words.{Unread}
use Rattle.op_select.specs.Selection.{plays_on}
use Rattle.op_turn.specs.Turns.{random_pick, rotated}

-- The child that a new choice finds, by what the children offer (`slots`). A random draws it by the next of its random
-- words. A rotate, which has no words (`None`), takes the next after `last`, the child used before.
abbrev pub chosen_by : Option Unread → (last : Option ℕ) → List Slot → Option ℕ
chosen_by None last slots = rotated slots last
chosen_by (Some words) last slots = random_pick slots words.next

-- The child that a rotate or a random plays at an instant, by what the children offer (`slots`): the one used last
-- while it goes on with its track, or else a newly chosen one. It keeps `last` and, if it is a random, its random
-- words.
abbrev pub used_by : Option Unread → (last : Option ℕ) → List Slot → Option ℕ
used_by words last slots = if plays_on slots last then last else chosen_by words last slots
