-- The definition computes: rows by hand.
use Rattle.std.proofs.Common.{◌≡◌, ℕ, Some, None, List, [], ◌∷◌, ◌++◌, take, map, replicate, Bool, true, false, refl}
use Rattle.std.specs.Prelude.{pos}
use Rattle.frame_core.specs.Slots.{Slot}
use Rattle.op_cross.specs.Crossfade.{cross}

abbrev cell : Bool → ℕ → Slot
cell first n = Some (record { left = pos n; right = pos 0; first = first; title = 0 })

-- a track of these samples
abbrev track : List ℕ → List Slot
track [] = []
track (n ∷ ns) = cell true n ∷ map (cell false) ns

-- a track of six 80 and one of five 0, in turn, an overlap of 4
high : List Slot
high = track (80 ∷ 80 ∷ 80 ∷ 80 ∷ 80 ∷ 80 ∷ [])

low : List Slot
low = track (0 ∷ 0 ∷ 0 ∷ 0 ∷ 0 ∷ [])

in_turn : take 16 (cross 4 (high ++ (low ++ (high ++ (low ++ (high ++ low))))))
    ≡ cell true 80 ∷ cell false 80 ∷ cell true 80 ∷ cell false 60 ∷ cell false 40 ∷ cell false 20
    ∷ cell true 0 ∷ cell false 80 ∷ cell true 80 ∷ cell false 60 ∷ cell false 40 ∷ cell false 20 ∷ cell true 0 ∷ cell false 80 ∷ cell true 80 ∷ cell false 60 ∷ []
unfolding high low
in_turn = refl

-- tracks 4 8 and 2 6 in turn, an overlap of 4: the second is wholly eaten
pairs : List Slot
pairs = track (4 ∷ 8 ∷ []) ++ track (2 ∷ 6 ∷ [])

eaten : cross 4 (pairs ++ (pairs ++ (pairs ++ pairs))) ≡ cell true 4 ∷ cell false 7 ∷ cell true 4 ∷ cell false 7 ∷ cell true 4 ∷ cell false 7 ∷ cell true 4 ∷ cell false 7 ∷ []
unfolding pairs
eaten = refl

-- one track of 1 2 3 and then nothing, an overlap of 2; and the same within a crossfade with an overlap of 4
once : List Slot
once = track (1 ∷ 2 ∷ 3 ∷ []) ++ replicate 5 None

alone : cross 2 once ≡ once
unfolding once
alone = refl

within : cross 4 (cross 2 once) ≡ once
unfolding once
within = refl

-- a short track between two long ones, an overlap of 3: it is mixed whole with the end of the first, and the third begins as it is
short_one : cross 3 (track (9 ∷ 9 ∷ 9 ∷ 9 ∷ []) ++ (track (3 ∷ []) ++ track (6 ∷ 6 ∷ 6 ∷ 6 ∷ [])))
    ≡ cell true 9 ∷ cell false 9 ∷ cell false 9 ∷ cell true 9 ∷ cell true 6 ∷ []
short_one = refl
