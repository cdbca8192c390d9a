-- The cells that files give at once.
use Rattle.std.proofs.Common.{◌≡◌, ◌<◌, ◌+◌, ◌-◌, ◌∙◌, ◌&&◌, ℕ, ℤ, zero, suc, Some, List, ◌∷◌, length, map, take, get_or, nat_eq, if◌then◌else◌, arith, refl, ap, sym, subst}
use Rattle.std.specs.List.{range_with_len}
use Rattle.frame_core.specs.Sounds.{Sound, cell_of, lefts_from, length_of, rights_from}
use Rattle.frame_core.specs.Library.{IsLibrary, Sounds, no_sound, sound_at, title_at, tracks_of}
use Rattle.frame_core.specs.Slots.{title_of, slot_left, slot_right}
use Rattle.op_leaf.specs.declared.files.FilesState.{FilesState}
use Rattle.op_leaf.specs.Inner.{LieInFile, lefts_of, rights_of}
use Rattle.op_leaf.specs.Leaves.{files_slot, place_in_round, sounds_of, total_of}
use Rattle.op_leaf.specs.Standing.{FilesStandAt}
use Rattle.op_leaf.proofs.Cursors.{later-next, length-sounds, some_samples, sounds-at}
use Rattle.op_leaf.proofs.Positions.{joined-within}
use Rattle.op_leaf.proofs.Stretching.{run_here}

ranged_same : (f g : ℕ → ℤ) (a b n : ℕ) → ((i : ℕ) → i < n → f (a + i) ≡ g (b + i)) → map f (range_with_len a n) ≡ map g (range_with_len b n)
ranged_same f g a b zero same = refl
ranged_same f g a b (suc n) same =
    let e : a + 0 ≡ a = omega arith in let d : b + 0 ≡ b = omega arith in
    ap (λ x. x ∷ map f (range_with_len (a + 1) n)) (sym (ap f e) ∙ same 0 (omega arith) ∙ ap g d)
    ∙ ap (λ l. g b ∷ l) (ranged_same f g (a + 1) (b + 1) n (λ i low.
    let p : a + 1 + i ≡ a + suc i = omega arith in let q : b + suc i ≡ b + 1 + i = omega arith in ap f p ∙ same (suc i) (omega (arith, low)) ∙ ap g q))

module _ (library : Sounds) (files : FilesState) (position n : ℕ) (stands : FilesStandAt library files position) (lie : LieInFile library files n) where
  abbrev All : List Sound
  All = sounds_of library files.node

  in_sounds : files.track < length All
  in_sounds = let long = length-sounds library files.node in let there = lie.there in omega (arith, there, long)

  pub slot_is : (i : ℕ) → i < n → files_slot library files.node files.again files.kind (position + i) ≡ Some (cell_of (sound_at library files.node files.track) (title_at library files.node files.track) files.kind (files.at + i))
  slot_is i low =
      let within = lie.within in
      let inside : files.at + i < length_of (get_or All files.track no_sound) =
      subst (λ (sound : Sound). files.at + i < length_of sound) (sym (sounds-at library files.node files.track lie.there)) (omega (arith, within, low)) in
      joined-within library (tracks_of library files.node) files.kind files.track (files.at + i) (place_in_round All files.again (position + i)) lie.there inside
      (sym (run_here All files.again files.track files.at position i in_sounds inside stands))
      ∙ ap (λ (sound : Sound). Some (cell_of sound (title_at library files.node files.track) files.kind (files.at + i))) (sounds-at library files.node files.track lie.there)

  -- they have one title
  pub one_title : (i : ℕ) → i < n → title_of (files_slot library files.node files.again files.kind (position + i)) ≡ title_at library files.node files.track
  one_title i low = ap title_of (slot_is i low)

  pub lefts_are : lefts_from (sound_at library files.node files.track) files.kind files.at n ≡ lefts_of (files_slot library files.node files.again files.kind) position n
  lefts_are = ranged_same (λ q. (cell_of (sound_at library files.node files.track) 0 files.kind q).left) (λ q. slot_left (files_slot library files.node files.again files.kind q)) files.at position n
      (λ i low. sym (ap slot_left (slot_is i low)))

  pub rights_are : rights_from (sound_at library files.node files.track) files.kind files.at n ≡ rights_of (files_slot library files.node files.again files.kind) position n
  rights_are = ranged_same (λ q. (cell_of (sound_at library files.node files.track) 0 files.kind q).right) (λ q. slot_right (files_slot library files.node files.again files.kind q)) files.at position n
      (λ i low. sym (ap slot_right (slot_is i low)))

  -- further in the file
  pub further : files.at + n < length_of (sound_at library files.node files.track) → total_of (take files.track All) + (files.at + n) ≡ place_in_round All files.again (position + n)
  further less = run_here All files.again files.track files.at position n in_sounds
      (subst (λ (sound : Sound). files.at + n < length_of sound) (sym (sounds-at library files.node files.track lie.there)) less) stands

  -- or at its end
  pub at_next : IsLibrary library → files.node < length library.leaves → 0 < n → files.at + n ≡ length_of (sound_at library files.node files.track) → (count : ℕ) → count ≡ length (tracks_of library files.node)
      → total_of (take (if files.again && nat_eq (files.track + 1) count then 0 else (files.track + 1)) All) + 0 ≡ place_in_round All files.again (position + n)
  at_next is node some ends count many =
      let long = length-sounds library files.node in
      let e : suc (position + (n - 1)) ≡ position + n = omega (arith, some) in
      let last : files.at + (n - 1) + 1 ≡ length_of (get_or All files.track no_sound) =
      subst (λ (sound : Sound). files.at + (n - 1) + 1 ≡ length_of sound) (sym (sounds-at library files.node files.track lie.there)) (omega (arith, ends, some)) in
      later-next All files.again files.track (files.at + (n - 1)) (position + (n - 1)) count (many ∙ sym long) in_sounds
      (λ k low. let there_next : k < length (tracks_of library files.node) = omega (arith, low, long) in
      subst (λ (sound : Sound). 0 < length_of sound) (sym (sounds-at library files.node k there_next)) (some_samples library files.node k is node there_next))
      last (run_here All files.again files.track files.at position (n - 1) in_sounds (omega (arith, last)) stands)
      ∙ ap (place_in_round All files.again) e
