-- A cursor over files: what it offers, and where it stands after one cell more.
use Rattle.std.proofs.Common.{◌≡◌, ◌<◌, ◌≤◌, ◌+◌, ◌%◌, ◌∙◌, ◌&&◌, ℕ, zero, suc, Bool, true, false, Some, None, List, [], ◌∷◌, length, get_or, take, nat_eq, if◌then◌else◌, arith, refl, sym, ap, subst}
use Rattle.std.proofs.lemmas.Bool.Decides.{nat_tests}
use Rattle.std.proofs.lemmas.List.{get_or-map, length-map}
use Rattle.std.proofs.lemmas.List.Elements.{All-get_or}
use Rattle.std.proofs.lemmas.List.Sums.{sum_by_more, sum_by_more_le}
use Rattle.std.specs.List.{All}
use Rattle.frame_core.specs.Sounds.{Sound, IsSound, cell_of, length_of}
use Rattle.frame_core.specs.Library.{Sounds, IsLibrary, no_sound, sound_at, title_at, tracks_of}
use Rattle.op_leaf.specs.declared.files.FilesState.{FilesState}
use Rattle.op_leaf.specs.Leaves.{files_slot, place_in_round, sounds_of, total_of}
use Rattle.op_leaf.specs.Standing.{FilesArePlacedIn, FilesStandAt}
use Rattle.op_leaf.proofs.Positions.{joined-within, joined-past}
use Rattle.op_leaf.proofs.Turns.{mod-step, mod-round}

-- as many sounds as tracks, and one of them
pub length-sounds : (library : Sounds) (node : ℕ) → length (sounds_of library node) ≡ length (tracks_of library node)
length-sounds library node = length-map (tracks_of library node) (λ file. get_or library.files file no_sound)

pub sounds-at : (library : Sounds) (node track : ℕ) → track < length (tracks_of library node) →
    get_or (sounds_of library node) track no_sound ≡ sound_at library node track
sounds-at library node track there = get_or-map (λ file. get_or library.files file no_sound) (tracks_of library node) track 0 no_sound there

-- each file of a node has samples
pub some_samples : (library : Sounds) (node track : ℕ) → IsLibrary library → node < length library.leaves →
    track < length (tracks_of library node) → 0 < length_of (sound_at library node track)
some_samples library node track is at_node at_track =
    let files = All-get_or (λ (tracks : List ℕ). All (λ file. file < length library.files) tracks) library.leaves node [] at_node is.there in
    let file = All-get_or (λ file. file < length library.files) (tracks_of library node) track 0 at_track files in
    (All-get_or IsSound library.files (get_or (tracks_of library node) track 0) no_sound file is.sounds).some

-- what it offers within a file
pub files-here : (library : Sounds) (files : FilesState) (position : ℕ) → FilesArePlacedIn library files → FilesStandAt library files position →
    files.track < length (tracks_of library files.node) →
    files_slot library files.node files.again files.kind position ≡ Some (cell_of (sound_at library files.node files.track) (title_at library files.node files.track) files.kind files.at)
files-here library files position placed stands there =
    let within : files.at < length_of (get_or (sounds_of library files.node) files.track no_sound) =
    subst (λ (sound : Sound). files.at < length_of sound) (sym (sounds-at library files.node files.track there)) (placed.within there) in
    joined-within library (tracks_of library files.node) files.kind files.track files.at
    (place_in_round (sounds_of library files.node) files.again position) there within (sym stands)
    ∙ ap (λ (sound : Sound). Some (cell_of sound (title_at library files.node files.track) files.kind files.at)) (sounds-at library files.node files.track there)

take-whole : (sounds : List Sound) (n : ℕ) → length sounds ≤ n → take n sounds ≡ sounds
take-whole [] zero h = refl
take-whole [] (suc n) h = refl
take-whole (sound ∷ sounds) zero h = absurd (omega arith)
take-whole (sound ∷ sounds) (suc n) h = ap (λ rest. sound ∷ rest) (take-whole sounds n (omega arith))

-- and past the last one
pub files-over : (library : Sounds) (files : FilesState) (position : ℕ) → FilesStandAt library files position →
    length (tracks_of library files.node) ≤ files.track →
    files_slot library files.node files.again files.kind position ≡ None
files-over library files position stands over =
    let all : take files.track (sounds_of library files.node) ≡ sounds_of library files.node =
    take-whole (sounds_of library files.node) files.track (omega (arith, over, length-sounds library files.node)) in
    let past : total_of (sounds_of library files.node) ≤ place_in_round (sounds_of library files.node) files.again position =
    omega (arith, stands, ap total_of all) in
    joined-past library (tracks_of library files.node) files.kind (place_in_round (sounds_of library files.node) files.again position) past

-- one cell more within a file
pub later-here : (sounds : List Sound) (again : Bool) (track at position : ℕ) → track < length sounds →
    at + 1 < length_of (get_or sounds track no_sound) → total_of (take track sounds) + at ≡ place_in_round sounds again position →
    total_of (take track sounds) + (at + 1) ≡ place_in_round sounds again (suc position)
later-here sounds false track at position there within stands = omega arith
later-here sounds true track at position there within stands =
    let short : total_of (take track sounds) + at + 1 < total_of sounds = omega (arith, within, sum_by_more_le length_of sounds track no_sound there) in
    let grown : total_of (take track sounds) + (at + 1) ≡ total_of (take track sounds) + at + 1 = omega arith in
    grown ∙ sym (mod-step position (total_of sounds) (total_of (take track sounds) + at) stands short)

-- the first cell of the next file, or of the first one again
pub later-next : (sounds : List Sound) (again : Bool) (track at position count : ℕ) → count ≡ length sounds → track < length sounds →
    ((next : ℕ) → next < length sounds → 0 < length_of (get_or sounds next no_sound)) →
    at + 1 ≡ length_of (get_or sounds track no_sound) → total_of (take track sounds) + at ≡ place_in_round sounds again position →
    total_of (take (if again && nat_eq (track + 1) count then 0 else (track + 1)) sounds) + 0 ≡ place_in_round sounds again (suc position)
later-next sounds false track at position count long there some within stands =
    omega (arith, stands, within, sum_by_more length_of sounds track no_sound there)
later-next sounds true track at position count long there some within stands =
    let next : total_of (take (track + 1) sounds) ≡ total_of (take track sounds) + at + 1 = omega (arith, within, sum_by_more length_of sounds track no_sound there) in
    by_test (nat_eq (track + 1) count) refl
  where
    next-is : total_of (take (track + 1) sounds) ≡ total_of (take track sounds) + at + 1
    next-is = omega (arith, within, sum_by_more length_of sounds track no_sound there)

    by_test : (b : Bool) → nat_eq (track + 1) count ≡ b →
        total_of (take (if b then 0 else (track + 1)) sounds) + 0 ≡ suc position % total_of sounds
    by_test true is =
        let last : length sounds ≤ track + 1 = grind (arith, nat_tests) in
        let whole : total_of (take track sounds) + at + 1 ≡ total_of sounds = sym next-is ∙ ap total_of (take-whole sounds (track + 1) last) in
        sym (mod-round position (total_of sounds) (total_of (take track sounds) + at) stands whole)
    by_test false is =
        let further : track + 1 < length sounds = grind (arith, nat_tests) in
        let more : total_of (take track sounds) + at + 1 < total_of sounds = omega (arith, next-is, some (track + 1) further, sum_by_more_le length_of sounds (track + 1) no_sound further) in
        let zero_more : total_of (take (track + 1) sounds) + 0 ≡ total_of (take track sounds) + at + 1 = omega (arith, next-is) in
        zero_more ∙ sym (mod-step position (total_of sounds) (total_of (take track sounds) + at) stands more)
