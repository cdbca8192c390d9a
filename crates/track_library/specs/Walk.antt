-- The walk over the nodes of a plan that finds the audio files that they play. `docs/formats.md` has the rules.
use Rattle.std.specs.Prelude.{◌≡◌, ℕ, ℤ, ◌+◌, ◌*◌, ◌^◌, max, ⊤, Bool, List, [], ◌∷◌, ◌++◌, length, map, Option, Some, None, Result, Ok, Err, if◌then◌else◌, nat_le, Vec}
use Rattle.std.specs.declared.alloc.Global.{Global}
use Rattle.std.specs.Option.{ForSome}
use Rattle.std.specs.Str.{bytes_eq}
use Rattle.liq_base.specs.Counts.{Rose}
use Rattle.liq_base.specs.Files.{Files, file_at}
use Rattle.liq_base.specs.Shelves.{ShelfTold}
use Rattle.plan_core.specs.declared.node.Node.{Node}
use Rattle.plan_core.specs.declared.node.Op.{Op}
use Rattle.plan_core.specs.declared.node.Op.TheVariants.{Single, Playlist}
use Rattle.wav_io.specs.Reading.{Wav, read_of}
use Rattle.resample.specs.Resampled.{resampled}
-- the samples of a WAV file: of three bytes each the upper two, or of two bytes
pub use Rattle.resample.specs.Bytes.{samples_at}
use Rattle.frame_core.specs.Library.{Sounds, no_sound}
use Rattle.frame_core.specs.Sounds.{Sound}
use Rattle.wav_io.specs.declared.fault.WavFault.{WavFault}
use Rattle.track_library.specs.Lists.{names_listed}
use Rattle.track_library.specs.declared.rules.Rules.{Rules}
use Rattle.track_library.specs.declared.fault.LoadFault.{LoadFault}
use Rattle.track_library.specs.declared.fault.LoadFault.TheVariants.{Missing, BadAudio, FileTooLarge, AllTooLarge, ReadFault, Memory}
use Rattle.track_library.specs.declared.fault.Unusable.{Unusable}
use Rattle.track_library.specs.declared.fault.Unusable.TheVariants.{NotThere, NotWav, TooLong}

-- the bytes of a file as it was found on the shelf: refused as not there, or as too long where it has more than `most`
-- bytes
abbrev pub bytes_in : ℕ → Option (List ℕ) → Result (List ℕ) Unusable
bytes_in most None = Err NotThere
bytes_in most (Some bytes) = if nat_le (length bytes) most then Ok bytes else Err TooLong

-- the bytes that a read answered, turned from a vector into a list; a read that failed keeps its fault
abbrev pub items_of : Result (Vec ℕ Global) Unusable → Result (List ℕ) Unusable
items_of (Err fault) = Err fault
items_of (Ok bytes) = Ok bytes.items

-- the sound of a WAV file, changed to the rate of the script
abbrev pub sound_of : ℕ → Wav → Sound
sound_of rate wav = record {
  kind = wav.kind;
  samples = resampled wav.rate rate wav.kind (samples_at wav.wide wav.body);
}

-- how many bytes a file counts for against the limits: the `size` that it has, or those of a WAV file of this sound (44
-- of header and 2 a sample), whichever are more
abbrev pub counted_bytes : ℕ → Sound → ℕ
counted_bytes size sound = max size (44 + 2 * length sound.samples)

-- the sound of an audio file at the rate of the script, with how many bytes the file counts for against the limits
abbrev pub Audio : Type 0
Audio = Sound × ℕ

-- an audio file with what it counts for, or the fault that it is too long where it counts for more than `most` bytes
abbrev pub of_at_most : ℕ → Audio → Result Audio Unusable
of_at_most most audio = if nat_le audio.1 most then Ok audio else Err TooLong

-- the audio of a file with these bytes, given whether they were read as a WAV file; or why the file is of no use: it
-- is no WAV file, or it counts for more bytes than the rules let one file have
abbrev pub audio_in : Rules → List ℕ → Result Wav WavFault → Result Audio Unusable
audio_in rules bytes (Err fault) = Err (NotWav fault)
audio_in rules bytes (Ok wav) = of_at_most rules.file
    (sound_of rules.rate wav, counted_bytes (length bytes) (sound_of rules.rate wav))

-- the answer of the WAV reader as the loader tells it: the WAV file, or the fault that the bytes are no WAV file
abbrev pub wav_or_fault : Result Wav WavFault → Result Wav Unusable
wav_or_fault (Err fault) = Err (NotWav fault)
wav_or_fault (Ok wav) = Ok wav

-- the WAV file in the bytes of a file, if the file could be opened and its bytes are a WAV file; else the fault
abbrev pub wav_opened : Result (List ℕ) Unusable → Result Wav Unusable
wav_opened (Err fault) = Err fault
wav_opened (Ok bytes) = wav_or_fault (read_of bytes)

-- the audio of a file whose bytes were opened, or why it has none: it could not be opened, is no WAV file or is too
-- long
abbrev pub audio_opened : Rules → Result (List ℕ) Unusable → Result Audio Unusable
audio_opened rules (Err fault) = Err fault
audio_opened rules (Ok bytes) = audio_in rules bytes (read_of bytes)

-- the audio of the file of this name, if it can be used: it is there, has no more bytes than one may, is a WAV file,
-- and counts for no more than one may; else what it breaks first
abbrev pub audio_at : Rules → Files → List ℕ → Result Audio Unusable
audio_at rules files name = audio_opened rules (bytes_in rules.file (file_at files name))

-- the sound of an audio file; no sound where it cannot be used
abbrev pub sound_from : Result Audio Unusable → Sound
sound_from (Err fault) = no_sound
sound_from (Ok audio) = audio.0

-- how many bytes an audio file counts for (the second part of the pair), or the fault why it cannot be used
abbrev pub count_of : {S : Type 0} → Result (S × ℕ) Unusable → Result ℕ Unusable
count_of (Err fault) = Err fault
count_of (Ok audio) = Ok audio.1

-- the sounds of the audio files of these names, at the rate of the rules, in order; no sound in place of a file that
-- cannot be used
abbrev pub sounds_named : Rules → Files → List (List ℕ) → List Sound
sounds_named rules files names = map (λ name. sound_from (audio_at rules files name)) names

-- the value of the first entry of a list of named values that has this name; none if no entry has it
abbrev pub entry_of : {V : Type 0} → List ℕ → List (List ℕ × V) → Option V
entry_of name [] = None
entry_of name (entry ∷ entries) = if bytes_eq name entry.0 then Some entry.1 else entry_of name entries

-- the audio files that were met: what each name is, which is the number of a file that is used or a fault; the names of
-- the files that are used, in the order in which they were met; and how many bytes these count for
pub record Heard : Type 0 where
  pub names : List (List ℕ × Result ℕ Unusable)
  pub titles : List (List ℕ)
  pub bytes : ℕ

-- The audio files met (`heard`) after a name that was not met before, and what the name is. A usable file gets the next
-- number, if its bytes (`count`) and those of the files before are at most `all`. A name that cannot be used is kept
-- with its fault.
abbrev pub first_use : ℕ → Heard → List ℕ → Result ℕ Unusable → Result (Heard × Result ℕ Unusable) LoadFault
first_use all heard name (Err fault) = Ok (
  record {
    names = heard.names ++ (name, Err fault) ∷ [];
    titles = heard.titles;
    bytes = heard.bytes;
  },
  Err fault,
)
first_use all heard name (Ok count) =
    if nat_le (heard.bytes + count) all then
    Ok (
      record {
        names = heard.names ++ (name, Ok (length heard.titles)) ∷ [];
        titles = heard.titles ++ name ∷ [];
        bytes = heard.bytes + count;
      },
      Ok (length heard.titles),
    )
    else Err AllTooLarge

-- The audio files met (`heard`) after this name, and what the name is. One that was met before is what it was `found`
-- to be, and nothing changes. A new one is entered with the bytes for which its file counts (`count`), or its fault;
-- all files may count for `all` bytes.
abbrev pub use_of : ℕ → Heard → List ℕ → Option (Result ℕ Unusable) → Result ℕ Unusable
    → Result (Heard × Result ℕ Unusable) LoadFault
use_of all heard name (Some found) count = Ok (heard, found)
use_of all heard name None count = first_use all heard name count

-- what was met with the audio file of this name, and what it is: the number of a file that is used, or why it cannot be
abbrev pub use_audio : Rules → Files → Heard → List ℕ → Result (Heard × Result ℕ Unusable) LoadFault
use_audio rules files heard name = use_of rules.all heard name (entry_of name heard.names)
    (count_of (audio_at rules files name))

-- the fault with which a plan is refused that needs the file of this name, by the cause for which the file cannot be
-- used
abbrev pub told_fault : List ℕ → Unusable → LoadFault
told_fault name NotThere = Missing name
told_fault name (NotWav fault) = BadAudio name fault
told_fault name TooLong = FileTooLarge name

-- The files met, and the leaf of a `single` (the numbers of the files that a node plays): its one file. The second
-- argument is what the look-up of its file answered; a file that cannot be used is a fault of the plan.
abbrev pub single_leaf : List ℕ → Result (Heard × Result ℕ Unusable) LoadFault → Result (Heard × List ℕ) LoadFault
single_leaf name (Err fault) = Err fault
single_leaf name (Ok (heard, Err fault)) = Err (told_fault name fault)
single_leaf name (Ok (heard, Ok number)) = Ok (heard, number ∷ [])

-- The files met, and the `leaf` of a playlist (the numbers of the files that it plays) after one more entry. The second
-- argument is what the look-up of the entry's file answered: a usable file is added at the end, and one that cannot be
-- used is left out.
abbrev pub entry_played : List ℕ → Result (Heard × Result ℕ Unusable) LoadFault → Result (Heard × List ℕ) LoadFault
entry_played leaf (Err fault) = Err fault
entry_played leaf (Ok (heard, Err fault)) = Ok (heard, leaf)
entry_played leaf (Ok (heard, Ok number)) = Ok (heard, leaf ++ number ∷ [])

-- The files met, and the leaf of a playlist (the numbers of the files that it plays), after one more entry of its
-- list. A fault that came before stays.
abbrev pub entry_next : Rules → Files → List ℕ → Result (Heard × List ℕ) LoadFault → Result (Heard × List ℕ) LoadFault
entry_next rules files name (Err fault) = Err fault
entry_next rules files name (Ok (heard, leaf)) = entry_played leaf (use_audio rules files heard name)

-- The files met, and the leaf of a playlist (the numbers of the files that it plays), after these entries of its list,
-- one after another. `played` has both before the first of them, or a fault, which stays.
abbrev pub entries_played : Rules → Files → List (List ℕ) → Result (Heard × List ℕ) LoadFault
    → Result (Heard × List ℕ) LoadFault
entries_played rules files [] played = played
entries_played rules files (name ∷ names) played = entries_played rules files names (entry_next rules files name played)

-- the names in the list file `name` with these bytes; where it could not be opened, that is a fault of the plan
abbrev pub list_in : List ℕ → Result (List ℕ) Unusable → Result (List (List ℕ)) LoadFault
list_in name (Err fault) = Err (told_fault name fault)
list_in name (Ok bytes) = Ok (names_listed bytes)

-- what a walk has read: the lists, each with its names, and the audio files
pub record Walked : Type 0 where
  pub lists : List (List ℕ × List (List ℕ))
  pub heard : Heard

-- Enters the list file `name` that was read for the first time: the `lists` read so far with this one behind them, and
-- the names in it. The last argument is what its reading answered.
abbrev pub first_list : List (List ℕ × List (List ℕ)) → List ℕ → Result (List (List ℕ)) LoadFault
    → Result (List (List ℕ × List (List ℕ)) × List (List ℕ)) LoadFault
first_list lists name (Err fault) = Err fault
first_list lists name (Ok names) = Ok (lists ++ (name, names) ∷ [], names)

-- The `lists` read so far, and the names in the list file `name`. If it was read before, the third argument has its
-- names, and nothing is read. If not, `fresh` is what its reading answers, and the list is entered.
abbrev pub list_of : List (List ℕ × List (List ℕ)) → List ℕ → Option (List (List ℕ)) → Result (List (List ℕ)) LoadFault
    → Result (List (List ℕ × List (List ℕ)) × List (List ℕ)) LoadFault
list_of lists name (Some names) fresh = Ok (lists, names)
list_of lists name None fresh = first_list lists name fresh

-- The lists read once the list file of this name was used, and the names in it; a list may have at most 2^20 bytes.
abbrev pub use_list : Files → List (List ℕ × List (List ℕ)) → List ℕ
    → Result (List (List ℕ × List (List ℕ)) × List (List ℕ)) LoadFault
use_list files lists name = list_of lists name (entry_of name lists)
    (list_in name (bytes_in (2 ^ 20) (file_at files name)))

-- what a walk has read, put together of the `lists` read and of the audio files met (`heard`); the leaf of the node
-- (the numbers of the files that it plays) goes with it
abbrev pub with_lists : List (List ℕ × List (List ℕ)) → Result (Heard × List ℕ) LoadFault
    → Result (Walked × List ℕ) LoadFault
with_lists lists (Err fault) = Err fault
with_lists lists (Ok (heard, leaf)) = Ok (record { lists = lists; heard = heard }, leaf)

-- What a walk has read, and the leaf of a `playlist` (the numbers of the files that it plays): those entries of its
-- list that can be used, in order. `heard` are the audio files met before; the last argument has the lists read and the
-- names in this one.
abbrev pub playlist_leaf : Rules → Files → Heard → Result (List (List ℕ × List (List ℕ)) × List (List ℕ)) LoadFault
    → Result (Walked × List ℕ) LoadFault
playlist_leaf rules files heard (Err fault) = Err fault
playlist_leaf rules files heard (Ok (lists, names)) = with_lists lists
    (entries_played rules files names (Ok (heard, [])))

-- What a walk has read once it came to a node of this operator, and the node's leaf: the numbers of the files that it
-- plays, none unless it is a `single` or a `playlist`.
abbrev pub leaf_of : Rules → Files → Op → Walked → Result (Walked × List ℕ) LoadFault
leaf_of rules files (Single name) walked = with_lists walked.lists
    (single_leaf name (use_audio rules files walked.heard name))
leaf_of rules files (Playlist name again) walked = playlist_leaf rules files walked.heard
    (use_list files walked.lists name)
leaf_of rules files _ walked = Ok (walked, [])

-- adds the leaf of the next node (the numbers of the files that it plays) behind `leaves`, those of the earlier nodes;
-- a fault at the node stays
abbrev pub leaf_added : List (List ℕ) → Result (Walked × List ℕ) LoadFault → Result (Walked × List (List ℕ)) LoadFault
leaf_added leaves (Err fault) = Err fault
leaf_added leaves (Ok (walked, leaf)) = Ok (walked, leaves ++ leaf ∷ [])

-- What was read, and the leaves of the nodes so far (for each the numbers of the files that it plays), after one more
-- node of the plan. The last argument has both before the node, or a fault, which stays.
abbrev pub node_next : Rules → Files → Node → Result (Walked × List (List ℕ)) LoadFault
    → Result (Walked × List (List ℕ)) LoadFault
node_next rules files node (Err fault) = Err fault
node_next rules files node (Ok (walked, leaves)) = leaf_added leaves (leaf_of rules files node.op walked)

-- What was read, and the leaves of the nodes (for each the numbers of the files that it plays), after these nodes, one
-- after another. `walked` has both before the first of them, or a fault, which stays.
abbrev pub nodes_walked : Rules → Files → List Node → Result (Walked × List (List ℕ)) LoadFault
    → Result (Walked × List (List ℕ)) LoadFault
nodes_walked rules files [] walked = walked
nodes_walked rules files (node ∷ nodes) walked = nodes_walked rules files nodes (node_next rules files node walked)

-- the library of a plan once all its nodes were walked: the sounds of the files, their names, and for each node the
-- numbers of its files; or the first fault
abbrev pub sounds_or_fault : Rules → Files → Result (Walked × List (List ℕ)) LoadFault → Result Sounds LoadFault
sounds_or_fault rules files (Err fault) = Err fault
sounds_or_fault rules files (Ok (walked, leaves)) = Ok (record {
  files = sounds_named rules files walked.heard.titles;
  names = walked.heard.titles;
  leaves = leaves;
})

-- what a walk has read before the first node: nothing
abbrev pub nothing_met : Walked
nothing_met = record { lists = []; heard = record { names = []; titles = []; bytes = 0 } }

-- the library of a plan with these nodes: all sounds that they play, each file once, and which node plays which; or
-- the first fault of the walk over them
abbrev pub load_of : Rules → Files → List Node → Result Sounds LoadFault
load_of rules files nodes = sounds_or_fault rules files (nodes_walked rules files nodes (Ok (nothing_met, [])))

-- Why a step that reads files ends with this fault; the shelf was as `old` tells it and is as `new` does. A fault of
-- the step is what `step` answers for the shelf's files, where they are told. A failed read is of a file that `reads`
-- allows, and the count of failed reads rose. Memory may be refused at any time.
abbrev pub Ends : {X : Type 0} → (old new : ShelfTold) → (Files → List ℕ → Type 0) → (Files → Result X LoadFault)
    → LoadFault → Type 0
Ends old new reads step (Missing name) = ForSome old.files (λ files. step files ≡ Err (Missing name))
Ends old new reads step (BadAudio name fault) = ForSome old.files (λ files. step files ≡ Err (BadAudio name fault))
Ends old new reads step (FileTooLarge name) = ForSome old.files (λ files. step files ≡ Err (FileTooLarge name))
Ends old new reads step AllTooLarge = ForSome old.files (λ files. step files ≡ Err AllTooLarge)
Ends old new reads step (ReadFault name) = Rose old.reads new.reads × ForSome old.files (λ files. reads files name)
Ends old new reads step Memory = ⊤

-- The reading of one file, of the name `file`, may end with this fault. Either this file could not be read, and the
-- count of failed reads rose from the shelf's state `old` to `new`; or memory was refused.
abbrev pub IsReading : List ℕ → (old new : ShelfTold) → LoadFault → Type 0
IsReading file old new (Missing name) = ⊥
IsReading file old new (BadAudio name fault) = ⊥
IsReading file old new (FileTooLarge name) = ⊥
IsReading file old new AllTooLarge = ⊥
IsReading file old new (ReadFault name) = Rose old.reads new.reads × (name ≡ file)
IsReading file old new Memory = ⊤

-- a step that reads no file may end with this fault: it is the fault that the step answers (`step`), or memory was
-- refused
abbrev pub EndsAt : {X : Type 0} → Result X LoadFault → LoadFault → Type 0
EndsAt step (Missing name) = step ≡ Err (Missing name)
EndsAt step (BadAudio name fault) = step ≡ Err (BadAudio name fault)
EndsAt step (FileTooLarge name) = step ≡ Err (FileTooLarge name)
EndsAt step AllTooLarge = step ≡ Err AllTooLarge
EndsAt step (ReadFault name) = ⊥
EndsAt step Memory = ⊤
