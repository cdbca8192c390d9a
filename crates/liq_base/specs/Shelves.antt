-- What a shelf tells of itself, and what its calls change of it.
use Rattle.std.specs.Prelude.{◌≡◌, ◌≤◌, ◌<◌, ◌+◌, ℕ, List, [], ◌∷◌, ◌++◌, length, Option, Some, None, IsSome, is_some}
use Rattle.std.specs.Option.{ForSome}
use Rattle.liq_base.specs.Counts.{Rose}
use Rattle.liq_base.specs.Pieces.{SinkTold}
use Rattle.liq_base.specs.Files.{Files}

-- What a shelf tells of a sink that it closed: its name, for how many bytes it was created, how many it held, how many
-- pieces it had got, and how often it had failed.
pub record Closing : Type 0 where
  pub name : List ℕ
  pub room : ℕ
  pub bytes : ℕ
  pub pieces : ℕ
  pub faults : ℕ

-- What is told of a sink that was closed, from its state: its name, the bytes it held, how many more it had room for
-- (`left`), how many pieces it got, and how often it failed.
abbrev pub closing_of : (name held : List ℕ) → (left pieces faults : ℕ) → Closing
closing_of name held left pieces faults = record {
  name = name;
  room = length held + left;
  bytes = length held;
  pieces = pieces;
  faults = faults;
}

-- What is told of a closed sink, with its count of faults set to 0.
abbrev pub without_faults : Closing → Closing
without_faults closing = record closing { faults = 0 }

-- What a shelf tells of itself, each where it is told: its files, the names of the sinks that it made, and what is told
-- of those that it closed, in order. It always tells how many reads failed (`reads`), and how many creations and
-- closings failed or closed a sink that had failed (`writes`).
pub record ShelfTold : Type 0 where
  pub files : Option Files
  pub created : Option (List (List ℕ))
  pub closed : Option (List Closing)
  pub reads : ℕ
  pub writes : ℕ

-- A list that a shelf tells, of the sinks it made or closed, with one more item at its end; `None` where it does not
-- tell the list.
abbrev pub noted : {A : Type 0} → A → Option (List A) → Option (List A)
noted item None = None
noted item (Some items) = Some (items ++ item ∷ [])

-- What a call that only reads changes of a shelf: no file, no creation and no closing. Its counts of faults may rise.
pub record OnlyRead (old new : ShelfTold) : Type 0 where
  pub files : new.files ≡ old.files
  pub created : new.created ≡ old.created
  pub closed : new.closed ≡ old.closed
  pub reads : old.reads ≤ new.reads
  pub writes : old.writes ≤ new.writes

-- What a creation changes of a shelf: the name of one new sink is noted. No file changes and no sink is closed; its
-- counts of faults may rise.
pub record OnlyMade (name : List ℕ) (old new : ShelfTold) : Type 0 where
  pub files : new.files ≡ old.files
  pub created : new.created ≡ noted name old.created
  pub closed : new.closed ≡ old.closed
  pub reads : old.reads ≤ new.reads
  pub writes : old.writes ≤ new.writes

-- A byte sink tells all facts that a closing tells of it: its name, its bytes, its room and its number of appends.
pub record TellsAll (out : SinkTold) : Type 0 where
  pub name : IsSome out.name
  pub held : IsSome out.held
  pub room : IsSome out.room
  pub appends : IsSome out.appends

-- an empty sink of this name, with room for so many bytes, as a shelf that told this makes it: where it tells its
-- files, the sink tells its name and bytes, and where it tells its closings, all that they tell of it
pub record IsFresh (name : List ℕ) (room : ℕ) (shelf : ShelfTold) (out : SinkTold) : Type 0 where
  pub named : ForSome out.name (λ told. told ≡ name)
  pub empty : ForSome out.held (λ told. told ≡ [])
  pub roomy : ForSome out.room (λ told. told ≡ room)
  pub unused : ForSome out.appends (λ told. told ≡ 0)
  pub sound : out.faults ≡ 0
  pub tells : IsSome shelf.files → IsSome out.name × IsSome out.held
  pub tells_all : IsSome shelf.closed → TellsAll out

-- The closings that a shelf tells, `before` and `after`, grew by that of a sink that told `out`. It is said where the
-- sink told all that a closing tells.
abbrev pub Lists : SinkTold → (before after : Option (List Closing)) → Type 0
Lists out before after =
    ForSome out.name (λ name. ForSome out.held (λ held. ForSome out.room (λ left. ForSome out.appends (λ pieces. after
    ≡ noted (closing_of name held left pieces out.faults) before))))

-- What a closing changes of a shelf, whether it succeeds or not: the sink that told `out` is listed as closed, and no
-- sink is made. If the sink had failed, the count of failed writes rises.
pub record OnlyClosed (out : SinkTold) (old new : ShelfTold) : Type 0 where
  pub files : is_some new.files ≡ is_some old.files
  pub created : new.created ≡ old.created
  pub closed : Lists out old.closed new.closed
  pub failed : 0 < out.faults → Rose old.writes new.writes
  pub reads : old.reads ≤ new.reads
  pub writes : old.writes ≤ new.writes
