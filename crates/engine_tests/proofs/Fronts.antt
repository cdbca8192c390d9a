-- A library with fewer leaves.
use Rattle.std.proofs.Common.{◌≡◌, ◌<◌, ◌^◌, ℕ, ◌∙◌, List, Vec, Global, All, length, map, take, ap, subst, sym}
use Rattle.std.proofs.lemmas.List.{take-map}
use Rattle.std.proofs.lemmas.List.Elements.{All-take}
use Rattle.frame_core.specs.Library.{IsLibrary}
use Rattle.frame_core.specs.Sounds.{Sound}

-- the first leaves of a library are one
pub front_library : (files : List Sound) (names : List (List ℕ)) (leaves fewer : List (Vec ℕ Global)) (count : ℕ) → fewer ≡ take count leaves
    → IsLibrary (record { files = files; names = names; leaves = map (λ v. v.items) leaves })
    → IsLibrary (record { files = files; names = names; leaves = map (λ v. v.items) fewer })
front_library files names leaves fewer count are m =
    let items : Vec ℕ Global → List ℕ = λ v. v.items in
    let same : take count (map items leaves) ≡ map items fewer = take-map items count leaves ∙ sym (ap (map items) are) in
    let L : List (List ℕ) → Type 0 = λ ls. IsLibrary (record { files = files; names = names; leaves = ls }) in
    let front : L (take count (map items leaves)) = record {
      there = All-take (λ list. All (λ file. file < length files) list) count (map items leaves) m.there;
      few = All-take (λ list. length list < 2 ^ 32) count (map items leaves) m.few;
      sounds = m.sounds;
      named = m.named;
      many = m.many;
    } in
    subst L same front
