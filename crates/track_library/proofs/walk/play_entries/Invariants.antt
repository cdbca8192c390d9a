use Rattle.std.proofs.Common.{◌≡◌, ℕ, List, [], drop}
use Rattle.std.specs.Prelude.{Ok}
use Rattle.std.specs.Option.{ForSome}
use Rattle.liq_base.specs.Shelves.{OnlyRead}
use Rattle.track_library.specs.Walk.{entries_played}
use Rattle.track_library.specs.Reads.{EntriesRead}
use Rattle.track_library.specs.States.{heard_of, Keeps}
use Rattle.track_library.proofs.Played.{PlaysSoFar}
use Rattle.track_library.proofs.walk.play_entries.Given as goal

-- what was played and the entries that are left make the whole
abbrev pub invariant-loop-name : goal.invariant-loop-name
invariant-loop-name g l =
    OnlyRead (g.S.Shelf.told l.fn.shelf) (g.S.Shelf.told l.shelf)
    × PlaysSoFar (heard_of l.fn.audio) (heard_of l.audio) l.leaf.items
    × ForSome (g.S.Shelf.told l.fn.shelf).files (λ files. entries_played l.rules files l.names (Ok (heard_of l.fn.audio, []))
    ≡ entries_played l.rules files (drop l.name-index l.names) (Ok (heard_of l.audio, l.leaf.items)))
    × ForSome (g.S.Shelf.told l.fn.shelf).files (λ files. (read : List ℕ) → EntriesRead l.rules files (drop l.name-index l.names) (Ok (heard_of l.audio, l.leaf.items)) read
    → EntriesRead l.rules files l.names (Ok (heard_of l.fn.audio, [])) read)
    × Keeps l.rules (g.S.Shelf.told l.fn.shelf).files l.fn.audio l.audio
