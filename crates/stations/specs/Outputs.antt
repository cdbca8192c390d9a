-- What a rendering writes, and what a shelf holds after it.
use Rattle.std.specs.Prelude.{◌≡◌, ◌⊎◌, ◌≤◌, ◌<◌, All, Bool, true, ℕ, List, [], ◌∷◌, ◌++◌, Option, Some, None, map}
use Rattle.std.specs.Option.{ForSome}
use Rattle.liq_base.specs.Counts.{Rose}
use Rattle.liq_base.specs.Files.{Files, HoldsPart, with_file}
use Rattle.liq_base.specs.Pieces.{IsPrefix}
use Rattle.liq_base.specs.Shelves.{Closing, ShelfTold}

-- a file to be written: its name, and all its bytes
pub record OutputFile : Type 0 where
  pub name : List ℕ
  pub bytes : List ℕ

-- the files of a shelf after these outputs were written, in order: a file of the same name is replaced
abbrev pub with_outputs : Files → List OutputFile → Files
with_outputs files [] = files
with_outputs files (output ∷ outputs) = with_outputs (with_file files output.name output.bytes) outputs

-- what is known of a file that was maybe not written to its end: its name; the bytes `least`, with which its contents
-- begin; and the bytes `most`, of which its contents are a prefix
pub record OutputPart : Type 0 where
  pub name : List ℕ
  pub least : List ℕ
  pub most : List ℕ

-- From `files` to `after` this output was closed: the contents of its file begin with `least` and are a prefix of
-- `most`. Or its closing failed, which `failed` states, and they are a prefix of `most` or what the file held before.
-- No other file changed.
abbrev pub HoldsBetween : (failed : Type 0) → Files → OutputPart → Files → Type 0
HoldsBetween failed files output after =
    ((part : List ℕ) × IsPrefix output.least part × IsPrefix part output.most
    × (after ≡ with_file files output.name part)) ⊎ (failed × HoldsPart files output.name output.most after)

-- From `files` to `after` these outputs were closed, one after another: the contents of each file begin with `least` of
-- its output and are a prefix of `most`. Where the number of failed writes rose at a closing, they may be any prefix of
-- `most`, or what the file held before. That number was `count` before the closings and `last` after them.
abbrev pub HoldsParts : (count : ℕ) → Files → List OutputPart → Files → (last : ℕ) → Type 0
HoldsParts count files [] after last = (after ≡ files) × (count ≤ last)
HoldsParts count files (output ∷ outputs) after last =
    (midway : Files) × (next : ℕ) × (count ≤ next) × HoldsBetween (Rose count next) files output midway
    × HoldsParts next midway outputs after last

-- what a shelf tells of the sinks that it made, or of those that were closed, after these, one after another; None
-- where it tells nothing
abbrev pub after_making : {A : Type 0} → List A → Option (List A) → Option (List A)
after_making more None = None
after_making more (Some before) = Some (before ++ more)

-- Sinks of these names were closed, one after another, and no other, each of which had got `least` pieces or more.
-- Where that is one or more, the first piece is a header, of 44 bytes: a sink that had not failed holds it whole.
-- `before` and `after` is what the shelf tells of its closings.
pub record AreClosed (least : ℕ) (names : List (List ℕ)) (before : List Closing) (after : Option (List Closing)) : Type
    0 where
  pub closings : List Closing
  pub names_are : map (λ closing. closing.name) closings ≡ names
  pub pieces_are : All (λ closing. least ≤ closing.pieces) closings
  pub headers_are : All (λ closing. 0 < least → closing.faults ≡ 0 → 44 ≤ closing.bytes) closings
  pub told : after ≡ Some (before ++ closings)

-- if the shelf tells its closings, sinks of these names were closed, each of which had got `least` pieces or more
abbrev pub HaveClosed : (least : ℕ) → List (List ℕ) → (before after : Option (List Closing)) → Type 0
HaveClosed least names before after = ForSome before (λ closings. AreClosed least names closings after)

-- The first of the outputs were created: the contents of each file begin with `least` of its output and are a prefix of
-- `most`, or are what a failed closing leaves. If some were not created, no tick was made, which is `idle`. Each that
-- was created had got its header when it was closed, or a prefix of it, and its sink had failed. `first` is how many
-- writes had failed when the closings began; if `device` and not all were created, one failed before that or after.
pub record HoldsSome (idle : Type 0) (device : Bool) (files : Files) (outputs : List OutputPart) (after : Files)
    (old new : ShelfTold) : Type 0 where
  pub created : List OutputPart
  pub others : List OutputPart
  pub outputs_are : outputs ≡ created ++ others
  pub unbegun : (others ≡ []) ⊎ idle
  pub told : new.created ≡ after_making (map (λ output. output.name) created) old.created
  pub begun : HaveClosed 1 (map (λ output. output.name) created) old.closed new.closed
  pub first : ℕ
  pub grew : old.writes ≤ first
  pub risen : device ≡ true → (others ≡ []) ⊎ Rose old.writes first ⊎ Rose first new.writes
  pub parts : HoldsParts first files created after new.writes

-- the file of an output that was written to its end: with the name of the output, and the bytes `most`
abbrev pub whole_of : OutputPart → OutputFile
whole_of output = record { name = output.name; bytes = output.most }

-- what is known of the file of an output that was closed without its end: its contents are just `least`, which lacks
-- the zero byte that ends some files
abbrev pub unended : OutputPart → OutputPart
unended output = record { name = output.name; least = output.least; most = output.least }

-- Outputs with all their bytes but the last were ended and closed, one after another, until a fault came, while the
-- count of failed writes rose from `count` to `last`: those before the fault hold all their bytes; the one at which it
-- came holds a prefix of them, or what it held before; those after it lack their last bytes, or, where the count rose
-- at their closing, hold a prefix or what they held before.
pub record HoldsEnds (count : ℕ) (files : Files) (outputs : List OutputPart) (after : Files) (last : ℕ) : Type 0 where
  pub whole : List OutputPart
  pub broken : OutputPart
  pub others : List OutputPart
  pub outputs_are : outputs ≡ whole ++ broken ∷ others
  pub midway : Files
  pub next : ℕ
  pub rose : Rose count next
  pub part : HoldsPart (with_outputs files (map whole_of whole)) broken.name broken.most midway
  pub behind : HoldsParts next midway (map unended others) after last

-- After a fault at the first of these files, if there is one, its name holds a prefix of its bytes, or what it held
-- before; nothing else changed.
abbrev pub HoldsNext : Files → List OutputFile → Files → Type 0
HoldsNext files [] after = after ≡ files
HoldsNext files (output ∷ outputs) after = HoldsPart files output.name output.bytes after

-- the first of these files were written whole, one after another, and then maybe a part of the next one; no other
pub record HoldsUpto (files : Files) (outputs : List OutputFile) (after : Files) : Type 0 where
  pub whole : List OutputFile
  pub others : List OutputFile
  pub outputs_are : outputs ≡ whole ++ others
  pub part : HoldsNext (with_outputs files whole) others after
