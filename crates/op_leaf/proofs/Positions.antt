-- Files that are played one after the other: where the cells of a position stand.
use Rattle.std.proofs.Common.{◌≡◌, ◌<◌, ◌≤◌, ◌+◌, ◌-◌, ◌∙◌, ℕ, zero, suc, true, false, Some, None, List, [], ◌∷◌, length, get_or, map, take, nat_lt, arith, refl}
use Rattle.std.proofs.lemmas.Bool.Decides.{nat_tests}
use Rattle.std.proofs.lemmas.List.Sums.{sum_by-cons}
use Rattle.liq_base.specs.declared.memory.Kind.{Kind}
use Rattle.frame_core.specs.Sounds.{Sound, cell_of, length_of}
use Rattle.frame_core.specs.Library.{Sounds, no_sound}
use Rattle.op_leaf.specs.Leaves.{file_of, joined_slot, total_of}

below : (a b : ℕ) → a < b → nat_lt a b ≡ true
below a b h = grind (arith, nat_tests)

not_below : (a b : ℕ) → b ≤ a → nat_lt a b ≡ false
not_below a b h = grind (arith, nat_tests)

-- the sounds of these files
abbrev pub sounds_in : Sounds → List ℕ → List Sound
sounds_in library files = map (λ file. file_of library file) files

-- a file is left out where the position is past it
joined-later : (library : Sounds) (file : ℕ) (files : List ℕ) (kind : Kind) (position rest : ℕ) → position ≡ length_of (file_of library file) + rest →
    joined_slot library (file ∷ files) kind position ≡ joined_slot library files kind rest
joined-later library file files kind position rest is =
    let past : length_of (file_of library file) ≤ position = omega arith in
    let left : position - length_of (file_of library file) ≡ rest = omega arith in
    rw (not_below position (length_of (file_of library file)) past, left) refl

-- the cell at a place of file `track`
pub joined-within : (library : Sounds) (files : List ℕ) (kind : Kind) (track at position : ℕ) → track < length files →
    at < length_of (get_or (sounds_in library files) track no_sound) → position ≡ total_of (take track (sounds_in library files)) + at →
    joined_slot library files kind position ≡ Some (cell_of (get_or (sounds_in library files) track no_sound) (suc (get_or files track 0)) kind at)
joined-within library [] kind track at position there within is = absurd (omega arith)
joined-within library (file ∷ files) kind zero at position there within is =
    let same : position ≡ at = omega arith in
    let short : position < length_of (file_of library file) = omega arith in
    rw (below position (length_of (file_of library file)) short, same) refl
joined-within library (file ∷ files) kind (suc track) at position there within is =
    let later : position ≡ length_of (file_of library file) + (total_of (take track (sounds_in library files)) + at) =
    omega (arith, is, sum_by-cons length_of (file_of library file) (take track (sounds_in library files))) in
    joined-later library file files kind position (total_of (take track (sounds_in library files)) + at) later
    ∙ joined-within library files kind track at (total_of (take track (sounds_in library files)) + at) (omega arith) within refl

-- nothing past the last file
pub joined-past : (library : Sounds) (files : List ℕ) (kind : Kind) (position : ℕ) → total_of (sounds_in library files) ≤ position
    → joined_slot library files kind position ≡ None
joined-past library [] kind position past = refl
joined-past library (file ∷ files) kind position past =
    let later : position ≡ length_of (file_of library file) + (position - length_of (file_of library file)) =
    omega (arith, past, sum_by-cons length_of (file_of library file) (sounds_in library files)) in
    joined-later library file files kind position (position - length_of (file_of library file)) later
    ∙ joined-past library files kind (position - length_of (file_of library file))
    (omega (arith, past, sum_by-cons length_of (file_of library file) (sounds_in library files)))
