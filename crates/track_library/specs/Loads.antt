-- What the loading of a plan's audio files finds.
use Rattle.std.specs.Prelude.{◌≡◌, ◌<◌, ◌^◌, ℕ, [], List, length, Option, Ok}
use Rattle.std.specs.List.{All}
use Rattle.std.specs.Option.{ForSome}
use Rattle.liq_base.specs.Files.{Files}
use Rattle.liq_base.specs.Shelves.{ShelfTold}
use Rattle.plan_core.specs.declared.node.Node.{Node}
use Rattle.plan_core.specs.declared.plan.Plan.{Plan}
use Rattle.frame_core.specs.Library.{IsLibrary, Sounds}
use Rattle.track_library.specs.Reads.{LoadReads}
use Rattle.track_library.specs.Singles.{HaveSingles}
use Rattle.track_library.specs.States.{IsHeard, heard_of, walked_of}
use Rattle.track_library.specs.Walk.{Ends, load_of, nodes_walked, nothing_met}
use Rattle.track_library.specs.declared.fault.LoadFault.{LoadFault}
use Rattle.track_library.specs.declared.rules.Rules.{Rules}
use Rattle.track_library.specs.declared.rules.Sizes.{Sizes}
use Rattle.track_library.specs.declared.walk.Walk.{Walk}

-- what the loading of a plan's audio files goes by: the rate of the plan, and how many bytes one file and all files may
-- have, by these sizes
abbrev pub rules_for : Plan → Sizes → Rules
rules_for plan sizes = record { rate = plan.rate; file = sizes.file; all = sizes.all }

-- The library has the audio files of these nodes. Where the shelf tells its files (`told`), it is that of the
-- definition. In any case each node has a leaf (the numbers of its files), that of a `single` has one file, and the
-- library is well-formed.
pub record AreLoaded (told : Option Files) (rules : Rules) (nodes : List Node) (library : Sounds) : Type 0 where
  pub loaded : ForSome told (λ files. load_of rules files nodes ≡ Ok library)
  pub leaves : length library.leaves ≡ length nodes
  pub singles : HaveSingles nodes library.leaves
  pub sounds : IsLibrary library

-- the audio files of the nodes can be loaded from the shelf's files without a fault, and the library that is loaded is
-- well-formed
pub record CanLoad (rules : Rules) (files : Files) (nodes : List Node) : Type 0 where
  pub library : Sounds
  pub loaded : load_of rules files nodes ≡ Ok library
  pub sounds : IsLibrary library

-- why the audio files of these nodes are not loaded: the walk over the nodes ends with this fault; the shelf was as
-- `old` tells it and is as `new` does
abbrev pub LoadEnds : (old new : ShelfTold) → Rules → List Node → LoadFault → Type 0
LoadEnds old new rules nodes = Ends old new (λ files. LoadReads rules files nodes) (λ files. load_of rules files nodes)

-- All nodes were walked. Where the shelf tells its files (`told`), what was read and the leaves are those of the
-- definition. In any case each node has a leaf (the numbers of its files), with files that are used alone, and that of
-- a `single` has one file.
pub record HaveWalked (told : Option Files) (rules : Rules) (nodes : List Node) (walk : Walk)
    (leaves : List (List ℕ)) : Type 0 where
  pub walked : ForSome told (λ files. nodes_walked rules files nodes (Ok (nothing_met, []))
      ≡ Ok (walked_of walk, leaves))
  pub heard : IsHeard (heard_of walk.audio)
  pub below : All (All (λ number. number < length walk.audio.titles.items)) leaves
  pub few : All (λ leaf. length leaf < 2 ^ 32) leaves
  pub many : length leaves ≡ length nodes
  pub singles : HaveSingles nodes leaves
