-- The names of cue files.
use Rattle.std.proofs.Common.{◌≡◌, ◌≢◌, ◌++◌, ◌∙◌, ℕ, List, Bool, true, false, ap, refl, sym}
use Rattle.std.specs.Prelude.{Option, Some, None, codes, if◌then◌else◌}
use Rattle.std.specs.Bool.{Decides}
use Rattle.std.specs.Str.{bytes_eq}
use Rattle.std.proofs.lemmas.Bool.{true≢false}
use Rattle.std.specs.Bool.{one_answer}
use Rattle.std.proofs.lemmas.List.{append_cancel_right}
use Rattle.std.proofs.lemmas.Slice.Eq.{bytes_eq-Decides}
use Rattle.stations.specs.Cues.{cue_name}

-- a name that ends as that of a cue file does is that of an output where what stands before is the output's name
pub ends_so : (name output front : List ℕ) (r : Bool) → name ≡ front ++ codes ".cue" → Decides r (front ≡ output) → r ≡ bytes_eq name (cue_name output)
ends_so name output front r is decides =
    one_answer {P = name ≡ cue_name output} r (bytes_eq name (cue_name output))
    ((λ yes. is ∙ ap cue_name (decides.0 yes)), λ same. decides.1 (append_cancel_right front output (codes ".cue") (sym is ∙ same)))
    (bytes_eq-Decides name (cue_name output))

-- one that does not is none
pub ends_otherwise : (name output : List ℕ) → ((front : List ℕ) → name ≢ front ++ codes ".cue") → false ≡ bytes_eq name (cue_name output)
ends_otherwise name output none =
    one_answer {P = name ≡ cue_name output} false (bytes_eq name (cue_name output))
    ((λ yes. absurd (true≢false (sym yes))), λ same. absurd (none output same))
    (bytes_eq-Decides name (cue_name output))

-- a name that was found to be taken, and one that was found not to be
pub found_taken : (file name : List ℕ) (found test : Bool) → found ≡ true → found ≡ test → file ≡ name → ◌≡◌ {A = Option (List ℕ)} (Some file) (if test then Some name else None)
found_taken file name found true taken same is = ap Some is
found_taken file name found false taken same is = absurd (true≢false (sym taken ∙ same))

pub found_free : (name : List ℕ) (found test : Bool) → found ≡ false → found ≡ test → ◌≡◌ {A = Option (List ℕ)} None (if test then Some name else None)
found_free name found true free same = absurd (true≢false (sym same ∙ free))
found_free name found false free same = refl
