-- A leaf goes on with its track until that ends.
use Rattle.std.proofs.Common.{◌≡◌, ◌<◌, ◌≤◌, ◌+◌, ◌%◌, ◌∙◌, ◌&&◌, ℕ, zero, suc, Bool, true, false, not, min, Some, None, IsSome, List, length, get_or, take, nat_eq, nat_lt, if◌then◌else◌, cond, arith, refl, sym, ap, subst}
use Rattle.std.proofs.lemmas.Bool.{false≢true}
use Rattle.std.proofs.lemmas.Bool.Decides.{nat_tests}
use Rattle.frame_core.specs.Slots.{Slot, title_of, goes_on, is_inner}
use Rattle.frame_core.specs.Sounds.{Sound, length_of}
use Rattle.frame_core.specs.Library.{IsLibrary, Sounds, no_sound, sound_at, tracks_of}
use Rattle.op_leaf.specs.declared.blank.Blank.{Blank}
use Rattle.op_leaf.specs.declared.files.FilesState.{FilesState}
use Rattle.op_leaf.specs.Inner.{going_from, inner_from, stretch_from, titled_stretch}
use Rattle.op_leaf.specs.Leaves.{blank_cell, files_slot, place_in_round, sounds_of, total_of}
use Rattle.op_leaf.specs.Standing.{BlankStandsAt, FilesArePlacedIn, FilesStandAt}
use Rattle.op_leaf.proofs.Cursors.{files-over, later-here, later-next, length-sounds, some_samples, sounds-at}
use Rattle.op_leaf.proofs.Positions.{joined-within}
use Rattle.op_leaf.proofs.Turns.{mod-step, mod-round}

inner_is : (slots : ℕ → Slot) (n position most : ℕ) → n ≤ most → ((i : ℕ) → i < n → is_inner (slots (position + i)) ≡ true)
    → (n < most → is_inner (slots (position + n)) ≡ false) → inner_from slots position most ≡ n
inner_is slots zero position zero few inner ends = refl
inner_is slots zero position (suc most) few inner ends =
    let e : position + 0 ≡ position = omega arith in
    let no : is_inner (slots position) ≡ false = sym (ap (λ n. is_inner (slots n)) e) ∙ ends (omega arith) in
    rw no refl
inner_is slots (suc n) position zero few inner ends = absurd (omega (arith, few))
inner_is slots (suc n) position (suc most) few inner ends =
    let e : position + 0 ≡ position = omega arith in
    let yes : is_inner (slots position) ≡ true = sym (ap (λ n. is_inner (slots n)) e) ∙ inner 0 (omega arith) in
    let rest : inner_from slots (suc position) most ≡ n =
    inner_is slots n (suc position) most (omega (arith, few))
    (λ i less. let f : position + suc i ≡ suc position + i = omega arith in sym (ap (λ n. is_inner (slots n)) f) ∙ inner (suc i) (omega (arith, less)))
    (λ less. let f : position + suc n ≡ suc position + n = omega arith in sym (ap (λ n. is_inner (slots n)) f) ∙ ends (omega (arith, less))) in
    rw (yes, rest) refl

-- a stretch, by the cells in it and what follows it
pub stretch_is : (slots : ℕ → Slot) (position most n : ℕ) → 0 < n → n ≤ most → ((i : ℕ) → 0 < i → i < n → is_inner (slots (position + i)) ≡ true)
    → (n < most → is_inner (slots (position + n)) ≡ false) → n ≡ stretch_from slots position most
stretch_is slots position zero n some few inner ends = absurd (omega (arith, some, few))
stretch_is slots position (suc most) zero some few inner ends = absurd (omega (arith, some))
stretch_is slots position (suc most) (suc n) some few inner ends = sym (ap suc (inner_is slots n (suc position) most (omega (arith, few))
    (λ i less. let f : position + suc i ≡ suc position + i = omega arith in sym (ap (λ n. is_inner (slots n)) f) ∙ inner (suc i) (omega arith) (omega (arith, less)))
    (λ less. let f : position + suc n ≡ suc position + n = omega arith in sym (ap (λ n. is_inner (slots n)) f) ∙ ends (omega (arith, less)))))

going_is : (slots : ℕ → Slot) (title n position most : ℕ) → n ≤ most → ((i : ℕ) → i < n → goes_on title (slots (position + i)) ≡ true)
    → (n < most → goes_on title (slots (position + n)) ≡ false) → going_from slots title position most ≡ n
going_is slots title zero position zero few inner ends = refl
going_is slots title zero position (suc most) few inner ends =
    let e : position + 0 ≡ position = omega arith in
    let no : goes_on title (slots position) ≡ false = sym (ap (λ n. goes_on title (slots n)) e) ∙ ends (omega arith) in
    rw no refl
going_is slots title (suc n) position zero few inner ends = absurd (omega (arith, few))
going_is slots title (suc n) position (suc most) few inner ends =
    let e : position + 0 ≡ position = omega arith in
    let yes : goes_on title (slots position) ≡ true = sym (ap (λ n. goes_on title (slots n)) e) ∙ inner 0 (omega arith) in
    let rest : going_from slots title (suc position) most ≡ n =
    going_is slots title n (suc position) most (omega (arith, few))
    (λ i less. let f : position + suc i ≡ suc position + i = omega arith in sym (ap (λ n. goes_on title (slots n)) f) ∙ inner (suc i) (omega (arith, less)))
    (λ less. let f : position + suc n ≡ suc position + n = omega arith in sym (ap (λ n. goes_on title (slots n)) f) ∙ ends (omega (arith, less))) in
    rw (yes, rest) refl

-- a stretch of one title, by the cells in it and what follows it
pub titled_is : (slots : ℕ → Slot) (position most n : ℕ) → 0 < n → n ≤ most
    → ((i : ℕ) → 0 < i → i < n → goes_on (title_of (slots position)) (slots (position + i)) ≡ true)
    → (n < most → goes_on (title_of (slots position)) (slots (position + n)) ≡ false) → n ≡ titled_stretch slots position most
titled_is slots position zero n some few inner ends = absurd (omega (arith, some, few))
titled_is slots position (suc most) zero some few inner ends = absurd (omega (arith, some))
titled_is slots position (suc most) (suc n) some few inner ends = sym (ap suc (going_is slots (title_of (slots position)) n (suc position) most (omega (arith, few))
    (λ i less. let f : position + suc i ≡ suc position + i = omega arith in sym (ap (λ n. goes_on (title_of (slots position)) (slots n)) f) ∙ inner (suc i) (omega arith) (omega (arith, less)))
    (λ less. let f : position + suc n ≡ suc position + n = omega arith in sym (ap (λ n. goes_on (title_of (slots position)) (slots n)) f) ∙ ends (omega (arith, less)))))

and_front : (a b : Bool) → (a && b) ≡ true → a ≡ true
and_front true b e = refl
and_front false b e = absurd (false≢true e)

and_back : (a b : Bool) → (a && b) ≡ true → b ≡ true
and_back true b e = e
and_back false b e = absurd (false≢true e)

-- a cell of a title that begins no track
pub going_inner : (title : ℕ) (slot : Slot) → goes_on title slot ≡ true → is_inner slot ≡ true
going_inner title None e = absurd (false≢true e)
going_inner title (Some cell) e = and_front (not cell.first) (nat_eq cell.title title) e

pub going_title : (title : ℕ) (slot : Slot) → goes_on title slot ≡ true → title_of slot ≡ title
going_title title None e = absurd (false≢true e)
going_title title (Some cell) e =
    let same : nat_eq cell.title title ≡ true = and_back (not cell.first) (nat_eq cell.title title) e in
    grind (arith, nat_tests, same)

-- some samples further within a file
pub run_here : (sounds : List Sound) (again : Bool) (track at position n : ℕ) → track < length sounds → at + n < length_of (get_or sounds track no_sound)
    → total_of (take track sounds) + at ≡ place_in_round sounds again position → total_of (take track sounds) + (at + n) ≡ place_in_round sounds again (position + n)
run_here sounds again track at position zero there within stands =
    let e : at + 0 ≡ at = omega arith in let f : position + 0 ≡ position = omega arith in
    ap (λ n. total_of (take track sounds) + n) e ∙ stands ∙ sym (ap (place_in_round sounds again) f)
run_here sounds again track at position (suc n) there within stands =
    let e : at + suc n ≡ at + n + 1 = omega arith in let f : suc (position + n) ≡ position + suc n = omega arith in
    ap (λ n. total_of (take track sounds) + n) e
    ∙ later-here sounds again track (at + n) (position + n) there (omega (arith, within)) (run_here sounds again track at position n there (omega (arith, within)) stands)
    ∙ ap (place_in_round sounds again) f

pub further_is : (at n : ℕ) → 0 < n → not (nat_eq (at + n) 0) ≡ true
further_is at n some = let e : nat_eq (at + n) 0 ≡ false = grind (arith, nat_tests, some) in ap not e

-- the cells of a file behind its first one begin no track
pub file_inner : (library : Sounds) (files : FilesState) (position n : ℕ) → FilesArePlacedIn library files → FilesStandAt library files position → files.track < length (tracks_of library files.node)
    → 0 < n → files.at + n < length_of (sound_at library files.node files.track)
    → is_inner (files_slot library files.node files.again files.kind (position + n)) ≡ true
file_inner library files position n placed stands there some within =
    let sounds : List Sound = sounds_of library files.node in
    let long = length-sounds library files.node in
    let in_sounds : files.track < length sounds = omega (arith, there, long) in
    let inside : files.at + n < length_of (get_or sounds files.track no_sound) =
    subst (λ (sound : Sound). files.at + n < length_of sound) (sym (sounds-at library files.node files.track there)) within in
    ap is_inner (joined-within library (tracks_of library files.node) files.kind files.track (files.at + n) (place_in_round sounds files.again (position + n)) there inside
    (sym (run_here sounds files.again files.track files.at position n in_sounds inside stands)))
    ∙ further_is files.at n some

-- behind a file another one begins, or nothing follows
module _ (library : Sounds) (files : FilesState) (position n : ℕ) (is : IsLibrary library) (placed : FilesArePlacedIn library files) (stands : FilesStandAt library files position)
    (there : files.track < length (tracks_of library files.node)) (ends : files.at + suc n ≡ length_of (sound_at library files.node files.track)) where
  abbrev All : List Sound
  All = sounds_of library files.node

  abbrev Next : ℕ
  Next = if files.again && nat_eq (files.track + 1) (length All) then 0 else (files.track + 1)

  in_sounds : files.track < length All
  in_sounds = let long = length-sounds library files.node in omega (arith, there, long)

  at_end : files.at + n + 1 ≡ length_of (get_or All files.track no_sound)
  at_end = subst (λ (sound : Sound). files.at + n + 1 ≡ length_of sound) (sym (sounds-at library files.node files.track there)) (omega (arith, ends))

  some_there : (k : ℕ) → k < length All → 0 < length_of (get_or All k no_sound)
  some_there k low =
      let long = length-sounds library files.node in
      let there_next : k < length (tracks_of library files.node) = omega (arith, low, long) in
      subst (λ (sound : Sound). 0 < length_of sound) (sym (sounds-at library files.node k there_next)) (some_samples library files.node k is placed.there there_next)

  stands_next : total_of (take Next All) + 0 ≡ place_in_round All files.again (suc (position + n))
  stands_next = later-next All files.again files.track (files.at + n) (position + n) (length All) refl in_sounds some_there at_end
      (run_here All files.again files.track files.at position n in_sounds (let e = at_end in omega (arith, e)) stands)

  next_by : (low : Bool) → nat_lt Next (length (tracks_of library files.node)) ≡ low → is_inner (files_slot library files.node files.again files.kind (suc (position + n))) ≡ false
  next_by true e =
      let long = length-sounds library files.node in
      let l : Next < length (tracks_of library files.node) = grind (arith, nat_tests, e) in
      let low : Next < length All = omega (arith, l, long) in
      ap is_inner (joined-within library (tracks_of library files.node) files.kind Next 0 (place_in_round All files.again (suc (position + n))) l (some_there Next low) (sym stands_next))
  next_by false e =
      let high : length (tracks_of library files.node) ≤ Next = grind (arith, nat_tests, e) in
      ap is_inner (files-over library (record files { track = Next; at = 0 }) (suc (position + n)) stands_next high)

  file_over : is_inner (files_slot library files.node files.again files.kind (position + suc n)) ≡ false
  file_over =
      let f : position + suc n ≡ suc (position + n) = omega arith in
      ap (λ q. is_inner (files_slot library files.node files.again files.kind q)) f ∙ next_by (nat_lt Next (length (tracks_of library files.node))) refl

pub file_ends : (library : Sounds) (files : FilesState) (position n : ℕ) → IsLibrary library → FilesArePlacedIn library files → FilesStandAt library files position → files.track < length (tracks_of library files.node)
    → 0 < n → files.at + n ≡ length_of (sound_at library files.node files.track)
    → is_inner (files_slot library files.node files.again files.kind (position + n)) ≡ false
file_ends library files position zero is placed stands there some ends = absurd (omega (arith, some))
file_ends library files position (suc n) is placed stands there some ends = file_over library files position n is placed stands there ends

-- ---- zeros

pub endless_inner : (position n : ℕ) → 0 < n → is_inner (Some (blank_cell 0 (position + n))) ≡ true
endless_inner position n some = further_is position n some

blank_place : (track at position n : ℕ) → 0 < track → at ≡ position % track → at + n < track → (position + n) % track ≡ at + n
blank_place track at position zero some is within =
    let e : position + 0 ≡ position = omega arith in let f : at + 0 ≡ at = omega arith in ap (λ q. q % track) e ∙ sym is ∙ sym f
blank_place track at position (suc n) some is within =
    let e : position + suc n ≡ suc (position + n) = omega arith in let f : at + n + 1 ≡ at + suc n = omega arith in
    ap (λ q. q % track) e
    ∙ mod-step (position + n) track (at + n) (sym (blank_place track at position n some is (omega (arith, within)))) (omega (arith, within)) ∙ f

blank_first : (track position : ℕ) → 0 < track → is_inner (Some (blank_cell track position)) ≡ not (nat_eq (position % track) 0)
blank_first track position some = let e : nat_eq track 0 ≡ false = grind (arith, nat_tests, some) in rw e refl

blank_at : (blank : Blank) (position : ℕ) → 0 < blank.track → BlankStandsAt blank position → blank.at ≡ position % blank.track
blank_at blank position some stands = let e : nat_eq blank.track 0 ≡ false = grind (arith, nat_tests, some) in rw e at stands

pub blank_inner : (blank : Blank) (position n : ℕ) → 0 < blank.track → BlankStandsAt blank position → 0 < n → blank.at + n < blank.track → is_inner (Some (blank_cell blank.track (position + n))) ≡ true
blank_inner blank position n track stands some within =
    blank_first blank.track (position + n) track ∙ ap (λ q. not (nat_eq q 0)) (blank_place blank.track blank.at position n track (blank_at blank position track stands) within) ∙ further_is blank.at n some

pub blank_ends : (blank : Blank) (position n : ℕ) → 0 < blank.track → BlankStandsAt blank position → 0 < n → blank.at + n ≡ blank.track → is_inner (Some (blank_cell blank.track (position + n))) ≡ false
blank_ends blank position zero track stands some ends = absurd (omega (arith, some))
blank_ends blank position (suc n) track stands some ends =
    let e : position + suc n ≡ suc (position + n) = omega arith in
    blank_first blank.track (position + suc n) track
    ∙ ap (λ q. not (nat_eq (q % blank.track) 0)) e
    ∙ ap (λ q. not (nat_eq q 0)) (mod-round (position + n) blank.track (blank.at + n) (sym (blank_place blank.track blank.at position n track (blank_at blank position track stands) (omega (arith, ends)))) (omega (arith, ends)))

-- ---- the cells of a stretch

inner_by : (slots : ℕ → Slot) (position most : ℕ) → ((j : ℕ) → j < inner_from slots (suc position) most → is_inner (slots (suc position + j)) ≡ true)
    → (now : Bool) → is_inner (slots position) ≡ now → (j : ℕ) → j < cond now (suc (inner_from slots (suc position) most)) zero → is_inner (slots (position + j)) ≡ true
inner_by slots position most more false e j low = absurd (omega (arith, low))
inner_by slots position most more true e zero low = let f : position + 0 ≡ position = omega arith in ap (λ n. is_inner (slots n)) f ∙ e
inner_by slots position most more true e (suc j) low =
    let f : position + suc j ≡ suc position + j = omega arith in
    ap (λ n. is_inner (slots n)) f ∙ more j (omega (arith, low))

inner_of : (slots : ℕ → Slot) (position most j : ℕ) → j < inner_from slots position most → is_inner (slots (position + j)) ≡ true
inner_of slots position zero j low = absurd (omega (arith, low))
inner_of slots position (suc most) j low = inner_by slots position most (λ j low. inner_of slots (suc position) most j low) (is_inner (slots position)) refl j low

pub stretch_inner : (slots : ℕ → Slot) (position most j : ℕ) → is_inner (slots position) ≡ true → j < stretch_from slots position most → is_inner (slots (position + j)) ≡ true
stretch_inner slots position zero j here low = absurd (omega (arith, low))
stretch_inner slots position (suc most) zero here low = let f : position + 0 ≡ position = omega arith in ap (λ n. is_inner (slots n)) f ∙ here
stretch_inner slots position (suc most) (suc j) here low =
    let f : position + suc j ≡ suc position + j = omega arith in
    ap (λ n. is_inner (slots n)) f ∙ inner_of slots (suc position) most j (omega (arith, low))

going_by : (slots : ℕ → Slot) (title position most : ℕ) → ((j : ℕ) → j < going_from slots title (suc position) most → goes_on title (slots (suc position + j)) ≡ true)
    → (now : Bool) → goes_on title (slots position) ≡ now → (j : ℕ) → j < cond now (suc (going_from slots title (suc position) most)) zero → goes_on title (slots (position + j)) ≡ true
going_by slots title position most more false e j low = absurd (omega (arith, low))
going_by slots title position most more true e zero low = let f : position + 0 ≡ position = omega arith in ap (λ n. goes_on title (slots n)) f ∙ e
going_by slots title position most more true e (suc j) low =
    let f : position + suc j ≡ suc position + j = omega arith in
    ap (λ n. goes_on title (slots n)) f ∙ more j (omega (arith, low))

going_of : (slots : ℕ → Slot) (title position most j : ℕ) → j < going_from slots title position most → goes_on title (slots (position + j)) ≡ true
going_of slots title position zero j low = absurd (omega (arith, low))
going_of slots title position (suc most) j low =
    going_by slots title position most (λ j low. going_of slots title (suc position) most j low) (goes_on title (slots position)) refl j low

-- a stretch of one title, of which the first goes on with this title
pub titled_going : (slots : ℕ → Slot) (title most j : ℕ) → goes_on title (slots 0) ≡ true → j < titled_stretch slots 0 most → goes_on title (slots j) ≡ true
titled_going slots title zero j here low = absurd (omega (arith, low))
titled_going slots title (suc most) zero here low = here
titled_going slots title (suc most) (suc j) here low =
    let f : 1 + j ≡ suc j = omega arith in
    sym (ap (λ n. goes_on title (slots n)) f)
    ∙ ap (λ t. goes_on t (slots (1 + j))) (sym (going_title title (slots 0) here))
    ∙ going_of slots (title_of (slots 0)) 1 most j (omega (arith, low))

pub inner_some : (slot : Slot) → is_inner slot ≡ true → IsSome slot
inner_some None e = absurd (false≢true e)
inner_some (Some cell) e = refl

-- a blank has gone on within its track, or to its end
pub blank_further : (blank : Blank) (position n : ℕ) → 0 < blank.track → BlankStandsAt blank position → blank.at + n < blank.track
    → blank.at + n ≡ (if nat_eq blank.track 0 then min (position + n) 1 else ((position + n) % blank.track))
blank_further blank position n track stands less =
    let e : nat_eq blank.track 0 ≡ false = grind (arith, nat_tests, track) in
    rw e (sym (blank_place blank.track blank.at position n track (blank_at blank position track stands) less))

pub blank_over : (blank : Blank) (position n : ℕ) → 0 < blank.track → BlankStandsAt blank position → 0 < n → blank.at + n ≡ blank.track
    → 0 ≡ (if nat_eq blank.track 0 then min (position + n) 1 else ((position + n) % blank.track))
blank_over blank position zero track stands some ends = absurd (omega (arith, some))
blank_over blank position (suc n) track stands some ends =
    let e : nat_eq blank.track 0 ≡ false = grind (arith, nat_tests, track) in
    let f : position + suc n ≡ suc (position + n) = omega arith in
    rw e (sym (ap (λ q. q % blank.track) f ∙ mod-round (position + n) blank.track (blank.at + n)
    (sym (blank_place blank.track blank.at position n track (blank_at blank position track stands) (omega (arith, ends)))) (omega (arith, ends))))
