-- What is kept of the files that are used.
use Rattle.std.proofs.Common.{◌≡◌, ◌∙◌, ℕ, Bool, true, false, List, [], ◌∷◌, ◌++◌, Option, refl, sym, ap, subst, arith, length-append}
use Rattle.std.specs.Prelude.{Some, None, Result, Ok, Err, OnOk}
use Rattle.std.specs.List.{All}
use Rattle.std.specs.Option.{ForSome}
use Rattle.std.proofs.lemmas.List.Elements.{All-nil, All-push}
use Rattle.liq_base.specs.Files.{Files, file_at}
use Rattle.frame_core.specs.Sounds.{IsSound, Sound}
use Rattle.track_library.specs.Walk.{audio_at, bytes_in, count_of, sound_from, sounds_named}
use Rattle.track_library.specs.States.{AreKept, IsHeld, IsKept, Keeps, one_kept}
use Rattle.track_library.specs.declared.audio.AudioFiles.{AudioFiles}
use Rattle.track_library.specs.declared.rules.Rules.{Rules}
use Rattle.track_library.proofs.Counting.{counted_sound}

pub nothing_kept : (rules : Rules) (told : Option Files) (keeps : Bool) (titles : List (List ℕ)) (sounds : List Sound) → titles ≡ [] → sounds ≡ [] → AreKept rules told keeps titles sounds
nothing_kept rules told keeps titles sounds none empty = rw (none, empty) (record { usable = λ files t. All-nil IsSound; named = λ k files t. refl; sound = λ k. All-nil IsSound; many = λ k. refl })

pub keeps_all : (rules : Rules) (told : Option Files) (audio : AudioFiles) → Keeps rules told audio audio
keeps_all rules told audio = record { same = refl; kept = λ k. k }

pub keeps_on : (rules : Rules) (told : Option Files) (first between last : AudioFiles) → Keeps rules told first between → Keeps rules told between last → Keeps rules told first last
keeps_on rules told first between last one more = record { same = more.same ∙ one.same; kept = λ k. more.kept (one.kept k) }

-- a part that began later
pub keeps_since : (rules : Rules) (old began : Option Files) (first last : AudioFiles) → began ≡ old → Keeps rules began first last → Keeps rules old first last
keeps_since rules old began first last same k = subst (λ (t : Option Files). Keeps rules t first last) same k

pub if_kept : {X Y A B : Type 0} (r : Result X Y) → (A → B) → OnOk r A → OnOk r B
if_kept (Ok x) f h = f h
if_kept (Err e) f h = h

-- one file more
named_more : (rules : Rules) (files : Files) (titles : List (List ℕ)) (name : List ℕ)
    → sounds_named rules files (titles ++ name ∷ []) ≡ sounds_named rules files titles ++ sound_from (audio_at rules files name) ∷ []
named_more rules files [] name = refl
named_more rules files (title ∷ titles) name = ap (λ l. sound_from (audio_at rules files title) ∷ l) (named_more rules files titles name)

module _ (rules : Rules) (told : Option Files) (titles : List (List ℕ)) (sounds : List Sound) (name : List ℕ)
    (usable : ForSome told (λ files. IsSound (sound_from (audio_at rules files name)))) where
  usable_more : ForSome told (λ files. All IsSound (sounds_named rules files titles)) → ForSome told (λ files. All IsSound (sounds_named rules files (titles ++ name ∷ [])))
  usable_more h files t =
      subst (All IsSound) (sym (named_more rules files titles name)) (All-push IsSound (sounds_named rules files titles) (sound_from (audio_at rules files name)) (h files t) (usable files t))

  kept_more : (keeps : Bool) (held : Option Sound) → (keeps ≡ true → IsHeld rules told name held) → AreKept rules told keeps titles sounds
      → AreKept rules told keeps (titles ++ name ∷ []) (one_kept sounds held)
  kept_more false held is k = record { usable = usable_more k.usable; named = λ e. absurd cc; sound = λ e. absurd cc; many = λ e. absurd cc }
  kept_more true None is k = absurd (is refl)
  kept_more true (Some sound) is k =
      let long = length-append sounds (sound ∷ []) in
      let titled = length-append titles (name ∷ []) in
      let held = is refl in
      record {
        usable = usable_more k.usable;
        named = λ e files t. named_more rules files titles name ∙ ap (λ s. sounds_named rules files titles ++ s ∷ []) (held.1 files t) ∙ ap (λ l. l ++ sound ∷ []) (k.named e files t);
        sound = λ e. All-push IsSound sounds sound (k.sound e) held.0;
        many = λ e. (let same = k.many e in omega (arith, long, titled, same));
      }

pub one_more : (rules : Rules) (told : Option Files) (old new : AudioFiles) (name : List ℕ) (held : Option Sound) (count : ℕ)
    → ForSome told (λ files. count_of (audio_at rules files name) ≡ Ok count) → (old.keeps ≡ true → IsHeld rules told name held)
    → new.keeps ≡ old.keeps → new.titles.items ≡ old.titles.items ++ name ∷ [] → new.files.items ≡ one_kept old.files.items held
    → IsKept rules told old → IsKept rules told new
one_more rules told old new name held count counts is keeps titles files k =
    let usable : ForSome told (λ files. IsSound (sound_from (audio_at rules files name))) = λ all t. counted_sound rules (bytes_in rules.file (file_at all name)) count (counts all t) in
    rw (keeps, titles, files) (kept_more rules told old.titles.items old.files.items name usable old.keeps held is k)
