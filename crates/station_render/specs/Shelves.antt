-- What a call does on a shelf, by what it tells before and after.
use Rattle.std.specs.Prelude.{◌≡◌, ◌≤◌, List, [], ◌∷◌, ℕ, Some, IsSomeAnd, map}
use Rattle.std.specs.Option.{ForSome}
use Rattle.liq_base.specs.Pieces.{SinkTold, TookPiece}
use Rattle.liq_base.specs.Shelves.{ShelfTold}
use Rattle.stations.specs.Creations.{CreatedFront, HaveClosed, HaveListed, after_making, closing_at_once}
use Rattle.stations.specs.Outputs.{HoldsUpto, OutputFile, with_outputs}

-- A sink took these bytes in one piece; where there are no bytes, it is as it was. `old` and `new` are what it tells
-- before and after.
abbrev pub TookAtOnce : List ℕ → (old new : SinkTold) → Type 0
TookAtOnce [] old new = new ≡ old
TookAtOnce (byte ∷ bytes) old new = TookPiece (byte ∷ bytes) old new

-- a list of one file, with this name and these bytes
abbrev pub one_file : (name bytes : List ℕ) → List OutputFile
one_file name bytes = record { name = name; bytes = bytes } ∷ []

-- A shelf, from `old` to `new`, wrote all of the files `outputs`, each in one piece at most, and no other file. Their
-- sinks were created and closed under these names, in this order.
pub record WroteFiles (old new : ShelfTold) (names : List (List ℕ)) (outputs : List OutputFile) : Type 0 where
  pub written : ForSome old.files (λ all. new.files ≡ Some (with_outputs all outputs))
  pub made : new.created ≡ after_making names old.created
  pub closes : HaveClosed 0 names old.closed new.closed
  pub listed : HaveListed (map closing_at_once outputs) old.closed new.closed

-- A shelf, from `old` to `new`, wrote the first of the files `outputs`, and maybe a beginning of the next one. The
-- first of these names were created, and no count of failed reads or writes fell.
pub record WroteUpto (old new : ShelfTold) (names : List (List ℕ)) (outputs : List OutputFile) : Type 0 where
  pub part : ForSome old.files (λ all. IsSomeAnd new.files (HoldsUpto all outputs))
  pub front : CreatedFront names old new
  pub reads_grew : old.reads ≤ new.reads
  pub writes_grew : old.writes ≤ new.writes

-- A call on a shelf, from `old` to `new`, created sinks at most. The shelf's files and its list of closed ones stay,
-- and no count of failed reads or writes fell.
pub record OnlyCreates (old new : ShelfTold) : Type 0 where
  pub files_kept : new.files ≡ old.files
  pub closed_kept : new.closed ≡ old.closed
  pub reads_grew : old.reads ≤ new.reads
  pub writes_grew : old.writes ≤ new.writes

-- A call on a shelf, from `old` to `new`, created no sink; it may have closed some. The list of created names stays,
-- and no count of failed reads or writes fell.
pub record OnlyCloses (old new : ShelfTold) : Type 0 where
  pub created_kept : new.created ≡ old.created
  pub reads_grew : old.reads ≤ new.reads
  pub writes_grew : old.writes ≤ new.writes
