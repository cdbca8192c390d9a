-- Titles and marks compute: rows by hand.
use Rattle.std.proofs.Common.{◌≡◌, ℕ, List, [], ◌∷◌, map, true, false, refl}
use Rattle.plan_core.specs.declared.node.Op.TheVariants.{Single, Playlist, Blank, Fallback, Sequence, Add, Crossfade}
use Rattle.clock_infer.specs.declared.clock_map.NodeClock.TheVariants.{Main, Sub}
use Rattle.frame_core.specs.Slots.{title_of}
use Rattle.stream_meaning.specs.Instants.{Setting, first_instants, slots_of, sub_of}
use Rattle.stream_meaning.specs.Sinks.{Cue, cues}
use Rattle.stream_meaning.proofs.Plans.{file, node, out, setting}

-- the titles of the first n slots of node i, in main clock 0
abbrev titles : Setting → (i n : ℕ) → List ℕ
titles world i n = map title_of (slots_of (first_instants world (sub_of world) (Main 0) n) i)

abbrev mark : ℕ → ℕ → Cue
mark at title = record { at = at; title = title }

-- six 80 and five 0 in turn, each mixed into the next over four samples: a mix has the title of the file that begins
crossed : Setting
crossed = setting (node (Playlist [] true) [] ∷ node (Crossfade 4) (0 ∷ []) ∷ node (Blank 0) [] ∷ node (Fallback false) (1 ∷ 2 ∷ []) ∷ []) (out 3 ∷ []) []
    (file (80 ∷ 80 ∷ 80 ∷ 80 ∷ 80 ∷ 80 ∷ []) ∷ file (0 ∷ 0 ∷ 0 ∷ 0 ∷ 0 ∷ []) ∷ []) ((0 ∷ 1 ∷ []) ∷ [] ∷ [] ∷ [] ∷ []) (Sub 1 ∷ Main 0 ∷ Main 0 ∷ Main 0 ∷ [])

mixed : titles crossed 3 16 ≡ 1 ∷ 1 ∷ 2 ∷ 2 ∷ 2 ∷ 2 ∷ 1 ∷ 1 ∷ 2 ∷ 2 ∷ 2 ∷ 2 ∷ 1 ∷ 1 ∷ 2 ∷ 2 ∷ []
unfolding crossed
mixed = refl

mixed_marks : cues crossed 3 2 ≡ mark 0 1 ∷ mark 2 2 ∷ mark 6 1 ∷ mark 8 2 ∷ mark 12 1 ∷ mark 14 2 ∷ []
unfolding crossed
mixed_marks = refl

-- a list of one file, which is played once, and then a blank
once : Setting
once = setting (node (Playlist [] false) [] ∷ node (Blank 0) [] ∷ node (Fallback true) (0 ∷ 1 ∷ []) ∷ []) (out 2 ∷ []) []
    (file (1 ∷ 2 ∷ 3 ∷ 4 ∷ 5 ∷ []) ∷ []) ((0 ∷ []) ∷ [] ∷ [] ∷ []) (Main 0 ∷ Main 0 ∷ Main 0 ∷ [])

once_marks : cues once 2 1 ≡ mark 0 1 ∷ mark 5 0 ∷ []
unfolding once
once_marks = refl

-- a sum has the title of the first child that offers, though nothing is marked where that changes
summed : Setting
summed = setting (node (Playlist [] false) [] ∷ node (Single []) [] ∷ node (Add true) (0 ∷ 1 ∷ []) ∷ []) (out 2 ∷ []) []
    (file (1 ∷ 2 ∷ []) ∷ file (3 ∷ 4 ∷ 5 ∷ 6 ∷ 7 ∷ []) ∷ []) ((0 ∷ []) ∷ (1 ∷ []) ∷ [] ∷ []) (Main 0 ∷ Main 0 ∷ Main 0 ∷ [])

summed_titles : titles summed 2 6 ≡ 1 ∷ 1 ∷ 2 ∷ 2 ∷ 2 ∷ 2 ∷ []
unfolding summed
summed_titles = refl

summed_marks : cues summed 2 1 ≡ mark 0 1 ∷ mark 5 2 ∷ []
unfolding summed
summed_marks = refl

-- a source that is entered in the middle of its track has its title, and the mark of the selection
entered : Setting
entered = setting (node (Playlist [] false) [] ∷ node (Single []) [] ∷ node Sequence (0 ∷ 1 ∷ []) ∷ node (Fallback false) (1 ∷ []) ∷ []) (out 2 ∷ out 3 ∷ []) []
    (file (1 ∷ 2 ∷ []) ∷ file (3 ∷ 4 ∷ 5 ∷ 6 ∷ 7 ∷ []) ∷ []) ((0 ∷ []) ∷ (1 ∷ []) ∷ [] ∷ [] ∷ []) (Main 0 ∷ Main 0 ∷ Main 0 ∷ Main 0 ∷ [])

entered_marks : cues entered 2 1 ≡ mark 0 1 ∷ mark 2 2 ∷ mark 5 2 ∷ []
unfolding entered
entered_marks = refl
