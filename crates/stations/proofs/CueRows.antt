-- The rows of cue files, computed.
use Rattle.std.proofs.Common.{◌≡◌, ◌++◌, ℕ, List, [], ◌∷◌, refl}
use Rattle.std.specs.Prelude.{codes, decimal}
use Rattle.std.specs.List.{flat_map}
use Rattle.frame_core.specs.Library.{Sounds}
use Rattle.stream_meaning.specs.Sinks.{Cue}
use Rattle.stations.specs.Cues.{cue_name, cue_text}

abbrev named : List (List ℕ) → Sounds
named names = record { files = []; names = names; leaves = [] }

abbrev at : ℕ → ℕ → Cue
at n title = record { at = n; title = title }

abbrev line : ℕ → List ℕ → List ℕ
line n rest = decimal n ++ rest ++ codes "\n"

abbrev lines : List (List ℕ) → List ℕ
lines text = flat_map (λ (one : List ℕ). one) text

-- two files by turns, and tracks of two and four instants
turns : cue_text (named (codes "a.wav" ∷ codes "b.wav" ∷ [])) (at 0 1 ∷ at 2 2 ∷ at 6 1 ∷ at 8 2 ∷ at 12 1 ∷ at 14 2 ∷ [])
    ≡ lines (line 0 (codes " a.wav") ∷ line 2 (codes " b.wav") ∷ line 6 (codes " a.wav") ∷ line 8 (codes " b.wav") ∷ line 12 (codes " a.wav") ∷ line 14 (codes " b.wav") ∷ [])
turns = refl

-- a file, and behind it a track without a title
untitled : cue_text (named (codes "f.wav" ∷ [])) (at 0 1 ∷ at 5 0 ∷ []) ≡ lines (line 0 (codes " f.wav") ∷ line 5 [] ∷ [])
untitled = refl

none : cue_text (named []) [] ≡ []
none = refl

file : cue_name (codes "A") ≡ codes "A.cue"
file = refl
