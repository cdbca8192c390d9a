-- What contracts see of the audio files that were met and of the lists that were read.
use Rattle.std.specs.Prelude.{◌≡◌, ◌≤◌, ◌<◌, ◌^◌, ℕ, [], ◌∷◌, ◌++◌, Bool, true, List, length, map, Option, Some, None, Result, Ok, Err, IfOk, string_bytes, String, Vec, slice_index_or}
use Rattle.std.specs.List.{All}
use Rattle.std.specs.Option.{ForSome}
use Rattle.std.specs.declared.alloc.Global.{Global}
use Rattle.liq_base.specs.Files.{Files}
use Rattle.frame_core.specs.Sounds.{IsSound, Sound}
use Rattle.track_library.specs.Walk.{Heard, Walked, audio_at, sound_from, sounds_named}
use Rattle.track_library.specs.declared.rules.Rules.{Rules}
use Rattle.track_library.specs.declared.walk.Walk.{Walk}
use Rattle.track_library.specs.declared.audio.AudioFiles.{AudioFiles}
use Rattle.track_library.specs.declared.read_lists.ReadLists.{ReadLists}
use Rattle.track_library.specs.declared.fault.Unusable.{Unusable}

-- The rules by which audio files are loaded are such as a walk may go by: a rate from 8000 to 192000 samples a second,
-- and at most 256 MiB for one file.
pub record AreRules (rules : Rules) : Type 0 where
  pub least : 8000 ≤ rules.rate
  pub most : rules.rate ≤ 192000
  pub file : rules.file ≤ 268435456

-- the entries of a map, in its order, each with the bytes of its name in place of the name
abbrev pub named : {V : Type 0} → List (String Global × V) → List (List ℕ × V)
named entries = map (λ e. (string_bytes e.0, e.1)) entries

-- the lists of a map from names to lists of audio files, in its order, each under the bytes of its name
abbrev pub listed : List (String Global × Vec (List ℕ) Global) → List (List ℕ × List (List ℕ))
listed entries = map (λ e. (string_bytes e.0, e.1.items)) entries

-- the audio files that were met, as the definitions have them: what each name is, the names of the files that are
-- used, and for how many bytes these count
abbrev pub heard_of : AudioFiles → Heard
heard_of audio = record {
  names = named audio.names.entries;
  titles = audio.titles.items;
  bytes = audio.bytes;
}

-- the lists that were read, each under its name
abbrev pub lists_of : ReadLists → List (List ℕ × List (List ℕ))
lists_of read = listed read.lists.entries

-- the names in the list file at this place among those that were read; none past the end
abbrev pub names_at : List (List ℕ × List (List ℕ)) → ℕ → List (List ℕ)
names_at lists at = (slice_index_or lists at ([], [])).1

-- The audio files met are consistent: each number that a name was found to have is that of a file that is used, and
-- there are fewer than 2^32 such files.
pub record IsHeard (heard : Heard) : Type 0 where
  pub numbers : All (λ e. IfOk e.1 (λ number. number < length heard.titles)) heard.names
  pub many : length heard.titles < 2 ^ 32

-- the sounds that are kept with this one behind them; they stay as they are if there is none, as where sounds are not
-- kept
abbrev pub one_kept : List Sound → Option Sound → List Sound
one_kept sounds None = sounds
one_kept sounds (Some sound) = sounds ++ sound ∷ []

-- There is a sound, and it is one of whole blocks. Where the shelf tells its files (`told`), it is that of the audio
-- file of this name, changed to the rate of the rules.
abbrev pub IsHeld : Rules → (told : Option Files) → (name : List ℕ) → Option Sound → Type 0
IsHeld rules told name None = ⊥
IsHeld rules told name (Some sound) = IsSound sound
    × ForSome told (λ files. sound_from (audio_at rules files name) ≡ sound)

-- The files that are used (`titles` has their names) hold sounds, where the shelf tells its files (`told`). If sounds
-- are kept (`keeps`), `sounds` are these, one for each file, each of whole blocks.
pub record AreKept (rules : Rules) (told : Option Files) (keeps : Bool) (titles : List (List ℕ))
    (sounds : List Sound) : Type 0 where
  pub usable : ForSome told (λ files. All IsSound (sounds_named rules files titles))
  pub named : keeps ≡ true → ForSome told (λ files. sounds_named rules files titles ≡ sounds)
  pub sound : keeps ≡ true → All IsSound sounds
  pub many : keeps ≡ true → length sounds ≡ length titles

-- what is kept of the audio files that were met is right: it is what the files on the shelf hold, where the shelf tells
-- them (`told`)
abbrev pub IsKept : Rules → (told : Option Files) → AudioFiles → Type 0
IsKept rules told audio = AreKept rules told audio.keeps audio.titles.items audio.files.items

-- From `old` to `new`, two states of the audio files met, it did not change whether their sounds are kept. If what was
-- kept in `old` is right by the shelf's files (`told`), so is what is kept in `new`.
pub record Keeps (rules : Rules) (told : Option Files) (old new : AudioFiles) : Type 0 where
  pub same : new.keeps ≡ old.keeps
  pub kept : IsKept rules told old → IsKept rules told new

-- From `old` to `new`, two states of the audio files met, a name was looked up: there are no fewer files than before.
-- What the name was `found` to be is a fault, or the number of a file that is used.
pub record Finds (old new : Heard) (found : Result ℕ Unusable) : Type 0 where
  pub heard : IsHeard new
  pub grew : length old.titles ≤ length new.titles
  pub number : IfOk found (λ number. number < length new.titles)

-- From `old` to `new`, two states of the audio files met, the files of one node were looked up: there are no fewer
-- files than before. `leaf` has the numbers of the files that the node plays, each that of a file that is used, fewer
-- than 2^32.
pub record Plays (old new : Heard) (leaf : List ℕ) : Type 0 where
  pub heard : IsHeard new
  pub grew : length old.titles ≤ length new.titles
  pub below : All (λ number. number < length new.titles) leaf
  pub few : length leaf < 2 ^ 32

-- the leaf of a playlist (the numbers of its files) with what was found for one more entry: a usable file is added, a
-- fault is left out
abbrev pub with_found : List ℕ → Result ℕ Unusable → List ℕ
with_found leaf (Ok number) = leaf ++ number ∷ []
with_found leaf (Err fault) = leaf

-- the state of the running walk as the definitions have it: the lists that it has read and the audio files that it has
-- met
abbrev pub walked_of : Walk → Walked
walked_of walk = record { lists = lists_of walk.lists; heard = heard_of walk.audio }
