-- The files that a walk reads, as far as it goes: those before its first fault, and the one that has it.
use Rattle.std.specs.Prelude.{◌≡◌, ◌⊎◌, ℕ, List, [], ◌∷◌, None, Result, Ok, Err}
use Rattle.liq_base.specs.Files.{Files}
use Rattle.plan_core.specs.declared.node.Node.{Node}
use Rattle.plan_core.specs.declared.node.Op.{Op}
use Rattle.plan_core.specs.declared.node.Op.TheVariants.{Single, Playlist}
use Rattle.track_library.specs.declared.rules.Rules.{Rules}
use Rattle.track_library.specs.declared.fault.LoadFault.{LoadFault}
use Rattle.track_library.specs.Walk.{Heard, Walked, entry_next, node_next, nothing_met, use_list, entry_of}

-- the file `read` is the one of this name, and the name is not among those in `met`, the files met so far, so that it
-- is read from the shelf here
abbrev pub FirstRead : {V : Type 0} → List (List ℕ × V) → List ℕ → List ℕ → Type 0
FirstRead met name read = (read ≡ name) × (entry_of name met ≡ None)

-- The file `read` is read for the first time at one of these entries of a playlist; those before it have no fault. The
-- fourth argument has the audio files met before the entries, and the numbers of the files that the playlist plays so
-- far.
abbrev pub EntriesRead : Rules → Files → List (List ℕ) → Result (Heard × List ℕ) LoadFault → List ℕ → Type 0
EntriesRead rules files [] played read = ⊥
EntriesRead rules files (name ∷ names) (Err fault) read = ⊥
EntriesRead rules files (name ∷ names) (Ok (heard, leaf)) read =
    FirstRead heard.names name read
    ⊎ EntriesRead rules files names (entry_next rules files name (Ok (heard, leaf))) read

-- The file `read` is read for the first time at one of the entries of a playlist. `heard` are the audio files met
-- before; the fourth argument has the lists read and the names in this one, or the fault of its reading.
abbrev pub PlaylistReads : Rules → Files → Heard → Result (List (List ℕ × List (List ℕ)) × List (List ℕ)) LoadFault
    → List ℕ → Type 0
PlaylistReads rules files heard (Err fault) read = ⊥
PlaylistReads rules files heard (Ok (lists, names)) read = EntriesRead rules files names (Ok (heard, [])) read

-- The file `read` is read for the first time at a node with this operator: the file of a `single`, the list of a
-- `playlist`, or an entry of that list. `walked` has the lists and audio files read before it.
abbrev pub LeafReads : Rules → Files → Op → Walked → List ℕ → Type 0
LeafReads rules files (Single name) walked read = FirstRead walked.heard.names name read
LeafReads rules files (Playlist name again) walked read =
    FirstRead walked.lists name read ⊎ PlaylistReads rules files walked.heard (use_list files walked.lists name) read
LeafReads rules files _ walked read = ⊥

-- The file `read` is read for the first time at one of these nodes; those before it have no fault. The fourth argument
-- has what was read before them, and for each earlier node the numbers of its files.
abbrev pub NodesRead : Rules → Files → List Node → Result (Walked × List (List ℕ)) LoadFault → List ℕ → Type 0
NodesRead rules files [] walked read = ⊥
NodesRead rules files (node ∷ nodes) (Err fault) read = ⊥
NodesRead rules files (node ∷ nodes) (Ok (walked, leaves)) read =
    LeafReads rules files node.op walked read
    ⊎ NodesRead rules files nodes (node_next rules files node (Ok (walked, leaves))) read

-- the loading of the audio files of a plan with these nodes reads the file `read`, as far as it goes: before its first
-- fault, or where that arises
abbrev pub LoadReads : Rules → Files → List Node → List ℕ → Type 0
LoadReads rules files nodes read = NodesRead rules files nodes (Ok (nothing_met, [])) read
