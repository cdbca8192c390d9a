-- How long a leaf goes on with its track.
use Rattle.std.specs.Prelude.{◌<◌, ◌≤◌, ◌+◌, ℕ, ℤ, List, length, map, zero, suc, if◌then◌else◌}
use Rattle.std.specs.List.{range_with_len}
use Rattle.frame_core.specs.Library.{Sounds, sound_at, tracks_of}
use Rattle.frame_core.specs.Slots.{Slot, title_of, goes_on, is_inner, slot_left, slot_right}
use Rattle.frame_core.specs.Sounds.{length_of}
use Rattle.op_leaf.specs.declared.blank.Blank.{Blank}
use Rattle.op_leaf.specs.declared.files.FilesState.{FilesState}
use Rattle.op_leaf.specs.declared.leaf.Cursor.{Cursor}
use Rattle.op_leaf.specs.declared.leaf.Cursor.TheVariants.{Track, Silence, Wave, Nothing}
use Rattle.op_leaf.specs.declared.leaf.LeafState.{LeafState}

-- How many slots in a row, from this position on and at most `most`, have a cell that begins no track. `slots` gives
-- the slot at a position.
abbrev pub inner_from : (slots : ℕ → Slot) → (position most : ℕ) → ℕ
inner_from slots position zero = zero
inner_from slots position (suc most) = if is_inner (slots position) then suc (inner_from slots (suc position) most)
    else zero

-- How many slots from this position on, at most `most`, are of the track of the cell there: this one, and those behind
-- it up to one that is empty or begins a track. `slots` gives the slot at a position.
abbrev pub stretch_from : (slots : ℕ → Slot) → (position most : ℕ) → ℕ
stretch_from slots position zero = zero
stretch_from slots position (suc most) = suc (inner_from slots (suc position) most)

-- How many slots in a row, from this position on and at most `most`, have a cell of this title that begins no track.
-- The title is the number of the file from which a cell came.
abbrev pub going_from : (slots : ℕ → Slot) → (title position most : ℕ) → ℕ
going_from slots title position zero = zero
going_from slots title position (suc most) = if goes_on title (slots position)
    then suc (going_from slots title (suc position) most) else zero

-- How many slots from this position on, at most `most`, are of the track and of the title of the cell there. The title
-- is the number of the file from which a cell came. `slots` gives the slot at a position.
abbrev pub titled_stretch : (slots : ℕ → Slot) → (position most : ℕ) → ℕ
titled_stretch slots position zero = zero
titled_stretch slots position (suc most) = suc (going_from slots (title_of (slots position)) (suc position) most)

-- the left samples of `count` slots from a position on
abbrev pub lefts_of : (slots : ℕ → Slot) → (position count : ℕ) → List ℤ
lefts_of slots position count = map (λ q. slot_left (slots q)) (range_with_len position count)

-- the right samples of `count` slots from a position on
abbrev pub rights_of : (slots : ℕ → Slot) → (position count : ℕ) → List ℤ
rights_of slots position count = map (λ q. slot_right (slots q)) (range_with_len position count)

-- the next `count` cells of a leaf of files, by its state, all lie in the file that it plays
pub record LieInFile (library : Sounds) (files : FilesState) (count : ℕ) : Type 0 where
  pub there : files.track < length (tracks_of library files.node)
  pub within : files.at + count ≤ length_of (sound_at library files.node files.track)

-- the next `count` samples of a blank, by its state, all lie in the track that it plays; an endless blank has one track
pub record LieInTrack (blank : Blank) (count : ℕ) : Type 0 where
  pub within : 0 < blank.track → blank.at + count ≤ blank.track

-- the next `count` cells of a leaf, by the state of what it plays, all lie in one track; a leaf that never plays has
-- none
abbrev pub CursorLiesAhead : Sounds → Cursor → (count : ℕ) → Type 0
CursorLiesAhead library (Track files) count = LieInFile library files count
CursorLiesAhead library (Silence blank) count = LieInTrack blank count
CursorLiesAhead library (Wave square) count = Unit {0}
CursorLiesAhead library Nothing count = ⊥

-- the next `count` cells of a leaf, by its state, all lie in one track; a leaf that never plays has none
abbrev pub LiesAhead : Sounds → LeafState → (count : ℕ) → Type 0
LiesAhead library state count = CursorLiesAhead library state.cursor count
