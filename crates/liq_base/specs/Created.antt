-- A file that is created, written and closed.
use Rattle.std.specs.Prelude.{◌≡◌, ℕ, List, [], Option, Some, None, is_some, IsSome, IsSomeAnd, Result, OnOk, OnErr, refl}
use Rattle.std.specs.Option.{ForSome}
use Rattle.std.proofs.Common.{◌∙◌, ap}
use Rattle.liq_base.specs.Pieces.{IsPrefix, SinkTold, grown}
use Rattle.liq_base.specs.Files.{Closed, ClosedPart}
use Rattle.liq_base.specs.Shelves.{IsFresh, ShelfTold}
use Rattle.liq_base.specs.Kept.{HoldsPartOr, closed_part_or}

-- what is told, and is x wherever it is told, is x
pub is_told : {A : Type 0} (o : Option A) (x : A) → IsSome o → ForSome o (λ told. told ≡ x) → o ≡ Some x
is_told None x some same = absurd (cc)
is_told (Some y) x some same = ap Some (same y refl)

-- a new sink of a shelf that tells its files tells its name
pub fresh_name : (name : List ℕ) (room : ℕ) (shelf : ShelfTold) (out : SinkTold) → IsFresh name room shelf out
    → IsSome shelf.files → out.name ≡ Some name
fresh_name name room shelf out fresh told = is_told out.name name (fresh.tells told).0 fresh.named

-- a new sink of a shelf that tells its files tells that it holds nothing
pub fresh_held : (name : List ℕ) (room : ℕ) (shelf : ShelfTold) (out : SinkTold) → IsFresh name room shelf out
    → IsSome shelf.files → out.held ≡ Some []
fresh_held name room shelf out fresh told = is_told out.held [] (fresh.tells told).1 fresh.empty

-- A name that was created, written in part or whole, and closed, holds a part of what was to be written; or what it
-- held, for the cause of a closing that failed. `shelf` and `out` is what shelf and sink told when the sink was made,
-- `last` what the sink told when it was closed.
pub part_left_or : {E : Type 0} (cause : Type 0) (shelf created closed : ShelfTold) (out last : SinkTold)
    (r : Result (Unit {0}) E) (name : List ℕ) (room : ℕ) (bytes part : List ℕ)
    → created.files ≡ shelf.files → IsFresh name room shelf out → last.name ≡ out.name → last.held ≡ grown part out.held
    → IsPrefix part bytes
    → OnOk r (Closed last created.files closed.files) → OnErr r (ClosedPart last created.files closed.files)
    → OnErr r cause
    → ForSome shelf.files (λ files. IsSomeAnd closed.files (HoldsPartOr cause files name bytes))
part_left_or cause shelf created closed out last r name room bytes part same fresh kept grew front whole_closed
    part_closed why files told =
    closed_part_or r cause last created.files closed.files files name part bytes whole_closed part_closed why
    (same ∙ told)
    (kept ∙ fresh_name name room shelf out fresh (ap is_some told))
    (grew ∙ ap (grown part) (fresh_held name room shelf out fresh (ap is_some told))) front
