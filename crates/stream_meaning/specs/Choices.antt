-- What lies behind a rotate or a random at an instant, by the instants at which it gave.
use Rattle.std.specs.Prelude.{List, [], ◌∷◌, ℕ, if◌then◌else◌}
use Rattle.frame_core.specs.Slots.{Slot}
use Rattle.op_turn.specs.Turns.{Past}
use Rattle.stream_meaning.specs.Instants.{Moment, choices, gives, last_pick, slots_at}

-- what these children offered at each of the instants at which node i gave, the latest first; other instants are left
-- out
abbrev pub gave_over : List Moment → (i : ℕ) → (children : List ℕ) → List (List Slot)
gave_over [] i children = []
gave_over (moment ∷ past) i children = if gives moment i then slots_at moment.parts children ∷ gave_over past i children
    else gave_over past i children

-- what a rotate or a random, node i, chooses its next child by, after these instants: the child that it used last, and
-- how often it has chosen
abbrev pub turned : List Moment → ℕ → Past
turned past i = record { last = last_pick past i; choices = choices past i }
