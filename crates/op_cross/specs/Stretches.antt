-- Items that are cells of one track.
use Rattle.std.specs.Prelude.{not, ◌||◌, nat_eq, Some, None, List, [], ◌∷◌, ℕ, suc, if◌then◌else◌}
use Rattle.frame_core.specs.Slots.{Slot}

-- how many items at the front are cells that begin no track
abbrev pub inner_count : List Slot → ℕ
inner_count [] = 0
inner_count (None ∷ slots) = 0
inner_count (Some cell ∷ slots) = if cell.first then 0 else suc (inner_count slots)

-- how many items at the front are cells of one track: none but the first begins a track
abbrev pub stretch : List Slot → ℕ
stretch [] = 0
stretch (None ∷ slots) = 0
stretch (Some cell ∷ slots) = suc (inner_count slots)

-- how many items at the front are cells that have this title and begin no track
abbrev pub titled_count : (title : ℕ) → List Slot → ℕ
titled_count title [] = 0
titled_count title (None ∷ slots) = 0
titled_count title (Some cell ∷ slots) = if cell.first || not (nat_eq cell.title title) then 0
    else suc (titled_count title slots)

-- how many items at the front are cells of one track and title: none but the first begins a track, and all have the
-- title of the first
abbrev pub titled_stretch : List Slot → ℕ
titled_stretch [] = 0
titled_stretch (None ∷ slots) = 0
titled_stretch (Some cell ∷ slots) = suc (titled_count cell.title slots)
