-- The position that a leaf's state stands for. No position is kept: it may grow without end.
use Rattle.std.specs.Prelude.{◌≡◌, ◌<◌, not, ℕ, ◌+◌, ◌*◌, ◌%◌, min, nat_eq, length, take, if◌then◌else◌, unsigned_abs}
use Rattle.frame_core.specs.Sounds.{length_of}
use Rattle.frame_core.specs.Library.{Sounds, tracks_of, sound_at}
use Rattle.op_leaf.specs.declared.files.FilesState.{FilesState}
use Rattle.op_leaf.specs.declared.blank.Blank.{Blank}
use Rattle.op_leaf.specs.declared.square.Square.{Square}
use Rattle.op_leaf.specs.declared.leaf.Leaf.{Leaf}
use Rattle.op_leaf.specs.declared.leaf.Leaf.TheVariants as leaf
use Rattle.op_leaf.specs.declared.leaf.LeafState.{LeafState}
use Rattle.op_leaf.specs.declared.leaf.Cursor.{Cursor}
use Rattle.op_leaf.specs.declared.leaf.Cursor.TheVariants.{Track, Silence, Wave, Nothing}
use Rattle.op_leaf.specs.Leaves.{place_in_round, sounds_of, total_of}

-- A leaf of files that has given `position` cells is where its state says. The lengths of the files before the one that
-- it plays, and its place in that one, make up the position in the current pass.
abbrev pub FilesStandAt : Sounds → FilesState → ℕ → Type 0
FilesStandAt library files position =
    total_of (take files.track (sounds_of library files.node)) + files.at
    ≡ place_in_round (sounds_of library files.node) files.again position

-- the library has the files of the leaf, and its state is within one of them, or past the last one
pub record FilesArePlacedIn (library : Sounds) (files : FilesState) : Type 0 where
  pub there : files.node < length library.leaves
  pub within : files.track < length (tracks_of library files.node)
      → files.at < length_of (sound_at library files.node files.track)

-- A blank that has given `position` cells is where its state says: at that sample of its track. If it is endless, the
-- state tells only whether it has begun.
abbrev pub BlankStandsAt : Blank → ℕ → Type 0
BlankStandsAt blank position = blank.at ≡ (if nat_eq blank.track 0 then min position 1 else (position % blank.track))

-- the state of a square wave is that after `position` cells: where it is in its period, and whether it has begun
pub record SquareStandsAt (square : Square) (position : ℕ) : Type 0 where
  pub phase : square.phase ≡ position * unsigned_abs square.pitch.millionths % (square.rate * 1000000)
  pub begun : square.begun ≡ not (nat_eq position 0)

-- the leaf of which this is the state; a leaf is what plays without a child: files, a blank, a square wave or nothing
abbrev pub played_by : Cursor → Leaf
played_by (Track files) = leaf.Files files.node files.again files.kind
played_by (Silence blank) = leaf.Blank blank.track
played_by (Wave square) = leaf.Square square.pitch square.rate square.kind
played_by Nothing = leaf.Never

-- the leaf that has this state; a leaf is what plays without a child: files, a blank, a square wave or nothing
abbrev pub leaf_of : LeafState → Leaf
leaf_of state = played_by state.cursor

-- the state of a blank is within its track; if it is endless, nothing is asked
pub record BlankIsPlaced (blank : Blank) : Type 0 where
  pub within : 0 < blank.track → blank.at < blank.track

-- the state of a leaf, by what it plays, is a place that there is: within a file of this library, or within the track
-- of a blank
abbrev pub CursorIsPlacedIn : Sounds → Cursor → Type 0
CursorIsPlacedIn library (Track files) = FilesArePlacedIn library files
CursorIsPlacedIn library (Silence blank) = BlankIsPlaced blank
CursorIsPlacedIn library (Wave square) = Unit {0}
CursorIsPlacedIn library Nothing = Unit {0}

-- the state of a leaf is a place that there is: within a file of this library, or within the track of a blank
abbrev pub IsPlacedIn : Sounds → LeafState → Type 0
IsPlacedIn library state = CursorIsPlacedIn library state.cursor

-- the state of a leaf, by what it plays, is that after `position` cells
abbrev pub CursorStandsAt : Sounds → Cursor → ℕ → Type 0
CursorStandsAt library (Track files) position = FilesStandAt library files position
CursorStandsAt library (Silence blank) position = BlankStandsAt blank position
CursorStandsAt library (Wave square) position = SquareStandsAt square position
CursorStandsAt library Nothing position = Unit {0}

-- the state of a leaf is that after `position` cells were given; the position itself is not kept
abbrev pub StandsAt : Sounds → LeafState → ℕ → Type 0
StandsAt library state position = CursorStandsAt library state.cursor position
