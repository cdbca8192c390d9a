-- The slot of a leaf at a position: at a position p it gave p cells.
use Rattle.std.specs.Prelude.{◌<◌, Bool, true, false, suc, Some, None, List, [], ◌∷◌, ℕ, ℤ, pos, negsuc, ◌-◌, ◌*◌, ◌%◌, nat_eq, nat_lt, map, length, sum_by, slice_index_or, if◌then◌else◌, unsigned_abs}
use Rattle.liq_base.specs.declared.memory.Kind.{Kind}
use Rattle.liq_base.specs.declared.memory.Kind.TheVariants.{Mono, Stereo}
use Rattle.fixed_text.specs.declared.decimal.Decimal.{Decimal}
use Rattle.frame_core.specs.declared.cell.Cell.{Cell}
use Rattle.frame_core.specs.Slots.{Slot}
use Rattle.frame_core.specs.Sounds.{Sound, cell_of, length_of}
use Rattle.frame_core.specs.Library.{Sounds, no_sound, tracks_of}
use Rattle.op_leaf.specs.declared.leaf.Leaf.{Leaf}
use Rattle.op_leaf.specs.declared.leaf.Leaf.TheVariants.{Files, Blank, Square, Never}

-- the sound of a file of a library, by its number
abbrev pub file_of : Sounds → (file : ℕ) → Sound
file_of library file = slice_index_or library.files file no_sound

-- the sounds of the files of a node, in order
abbrev pub sounds_of : Sounds → ℕ → List Sound
sounds_of library node = map (λ file. file_of library file) (tracks_of library node)

-- how many samples each channel has in all these sounds together
abbrev pub total_of : List Sound → ℕ
total_of sounds = sum_by length_of sounds

-- The slot at a position of these files of the library, played once, one after the other. A cell has the kind, mono or
-- stereo, that is asked for, and its file's title; behind the last file there is nothing.
abbrev pub joined_slot : Sounds → (files : List ℕ) → Kind → ℕ → Slot
joined_slot library [] kind position = None
joined_slot library (file ∷ files) kind position =
    if nat_lt position (length_of (file_of library file))
    then Some (cell_of (file_of library file) (suc file) kind position)
    else joined_slot library files kind (position - length_of (file_of library file))

-- The position within one pass through these files, for a leaf that has given `position` cells. With true the files are
-- played again and again, so that it begins anew after the last one.
abbrev pub place_in_round : List Sound → Bool → ℕ → ℕ
place_in_round sounds true position = position % total_of sounds
place_in_round sounds false position = position

-- The slot of a leaf that plays the files of a node, once or, with true, again and again. `position` is how many cells
-- it has given.
abbrev pub files_slot : Sounds → (node : ℕ) → Bool → Kind → ℕ → Slot
files_slot library node again kind position =
    joined_slot library (tracks_of library node) kind (place_in_round (sounds_of library node) again position)

-- The cell of a blank, zeros, at a position. A track of it has `track` samples, so that one begins at each multiple of
-- them; with 0 the blank is endless, and its one track begins at 0.
abbrev pub blank_cell : ℕ → ℕ → Cell
blank_cell track position =
    record {
      left = pos 0;
      right = pos 0;
      first = nat_eq (if nat_eq track 0 then position else (position % track)) 0;
      title = 0;
    }

-- The sample of a square wave at a position: 8192 in the first half of each period, and -8192 in the second. It has
-- `pitch` periods a second, at `rate` samples a second.
abbrev pub height_at : Decimal → ℕ → ℕ → ℤ
height_at pitch rate position =
    if nat_lt (position * unsigned_abs pitch.millionths % (rate * 1000000)) (rate * 500000) then pos 8192
    else negsuc 8191

-- the right sample of a cell whose left one is `sample`: the same in a stereo source, and 0 in a mono one
abbrev pub on_the_right : Kind → ℤ → ℤ
on_the_right Mono sample = pos 0
on_the_right Stereo sample = sample

-- The cell of a square wave of `pitch` periods a second, at `rate` samples a second, in a source of this kind. The cell
-- at position 0 begins its one track.
abbrev pub square_cell : Decimal → ℕ → Kind → ℕ → Cell
square_cell pitch rate kind position = record {
  left = height_at pitch rate position;
  right = on_the_right kind (height_at pitch rate position);
  first = nat_eq position 0;
  title = 0;
}

-- what a leaf has in its slot, a cell or nothing, when it has given `position` cells
abbrev pub leaf_slot : Sounds → Leaf → ℕ → Slot
leaf_slot library (Files node again kind) position = files_slot library node again kind position
leaf_slot library (Blank track) position = Some (blank_cell track position)
leaf_slot library (Square pitch rate kind) position = Some (square_cell pitch rate kind position)
leaf_slot library Never position = None

-- a square wave has a sample rate above 0, so that its periods are defined; any other leaf needs none
abbrev pub HasRate : Leaf → Type 0
HasRate (Files node again kind) = Unit {0}
HasRate (Blank track) = Unit {0}
HasRate (Square pitch rate kind) = 0 < rate
HasRate Never = Unit {0}

-- the library has a list of files for a leaf that plays files
abbrev pub HasTracksOf : Sounds → Leaf → Type 0
HasTracksOf library (Files node again kind) = node < length library.leaves
HasTracksOf library (Blank track) = Unit {0}
HasTracksOf library (Square pitch rate kind) = Unit {0}
HasTracksOf library Never = Unit {0}
