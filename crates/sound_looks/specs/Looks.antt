-- What a look at audio files and lists finds, and what it says of their use.
use Rattle.std.specs.Prelude.{◌≡◌, ℕ, ◌+◌, ◌^◌, ◌&&◌, max, Bool, not, List, [], ◌∷◌, length, Result, Ok, Err, if◌then◌else◌, nat_eq, nat_le, slice_index}
use Rattle.std.specs.Option.{ForSome}
use Rattle.std.specs.Str.{is_utf8}
use Rattle.liq_base.specs.Counts.{Rose}
use Rattle.liq_base.specs.Files.{file_at}
use Rattle.liq_base.specs.Shelves.{ShelfTold}
use Rattle.wav_io.specs.Reading.{Wav, place_of, read_of}
use Rattle.wav_io.specs.declared.head.Head.{Head}
use Rattle.wav_io.specs.declared.fault.WavFault.{WavFault}
use Rattle.resample.specs.Resampled.{blocks_of, output_length}
use Rattle.track_library.specs.Heads.{blocks_in, written_size}
use Rattle.track_library.specs.Lists.{lines, names_listed, without_cr, without_mark}
use Rattle.track_library.specs.Walk.{bytes_in, counted_bytes, samples_at, sound_of}
use Rattle.track_library.specs.declared.rules.Rules.{Rules}
use Rattle.track_library.specs.declared.fault.Unusable.{Unusable}
use Rattle.track_library.specs.declared.fault.Unusable.TheVariants.{NotThere, NotWav, TooLong}
use Rattle.sound_looks.specs.declared.look.Facts.{Facts}
use Rattle.sound_looks.specs.declared.look.Look.{Look}
use Rattle.sound_looks.specs.declared.look.Look.TheVariants.{Unread, Bad, Sound}
use Rattle.sound_looks.specs.declared.list.ListLook.{ListLook}
use Rattle.sound_looks.specs.declared.list.ListLook.TheVariants as list_look

-- What is told of a WAV file that was read whole, from its bytes: kind, rate, width, where the samples begin, how many
-- there are, how many are played, and for how many bytes it counts. `rules` has the rate of the script.
abbrev pub facts_of : Rules → (bytes : List ℕ) → Wav → Facts
facts_of rules bytes wav = record {
  kind = wav.kind;
  rate = wav.rate;
  wide = wav.wide;
  place = place_of bytes;
  own = blocks_of wav.kind (samples_at wav.wide wav.body);
  played = output_length (blocks_of wav.kind (samples_at wav.wide wav.body)) wav.rate rules.rate;
  bytes = counted_bytes (length bytes) (sound_of rules.rate wav);
}

-- What is told of a WAV file of `size` bytes from its head alone, which says where the samples are and how many.
-- `rules` has the rate of the script.
abbrev pub head_facts : Rules → (size : ℕ) → Head → Facts
head_facts rules size head = record {
  kind = head.kind;
  rate = head.rate;
  wide = head.wide;
  place = head.at;
  own = blocks_in head;
  played = output_length (blocks_in head) head.rate rules.rate;
  bytes = max size (written_size head rules.rate);
}

-- What a look finds in bytes that were read as a WAV file: the facts of it, or why they are none. `rules` has the rate
-- of the script.
abbrev pub look_in : Rules → (bytes : List ℕ) → Result Wav WavFault → Look
look_in rules bytes (Err fault) = Bad (NotWav fault)
look_in rules bytes (Ok wav) = Sound (facts_of rules bytes wav)

-- What a look finds in a file, from its bytes, or from the reason why these are of no use. `rules` has the rate of the
-- script.
abbrev pub look_of : Rules → Result (List ℕ) Unusable → Look
look_of rules (Err fault) = Bad fault
look_of rules (Ok bytes) = look_in rules bytes (read_of bytes)

-- What a look at the file of this name finds is `found`, by the bytes that the shelf tells of it. The rules have the
-- script's rate and the most bytes of one file. Nothing is claimed where the shelf does not tell its files.
abbrev pub Looks : Rules → (name : List ℕ) → ShelfTold → Look → Type 0
Looks rules name told found = ForSome told.files
    (λ files. look_of rules (bytes_in rules.file (file_at files name)) ≡ found)

-- What a look at the file of this name answered is true. `Unread` comes only if the shelf's count of failed reads
-- rose, from `old` to `new`, and any other answer is what the file's bytes say. The rules have the script's rate and
-- the most bytes of one file.
abbrev pub IsLooked : Rules → (name : List ℕ) → (old new : ShelfTold) → Look → Type 0
IsLooked rules name old new Unread = Rose old.reads new.reads
IsLooked rules name old new (Bad fault) = Looks rules name old (Bad fault)
IsLooked rules name old new (Sound facts) = Looks rules name old (Sound facts)

-- whether a line of an `.m3u` list is skipped: it is not empty, no comment (it does not begin with `#`), and not UTF-8
abbrev pub is_skipped : List ℕ → Bool
is_skipped line = not (nat_eq (length line) 0) && not (nat_eq (slice_index line 0) 35) && not (is_utf8 line)

-- how many of these lines are skipped since they are not UTF-8
abbrev pub skipped_among : List (List ℕ) → ℕ
skipped_among [] = 0
skipped_among (line ∷ lines) = if is_skipped (without_cr line) then 1 + skipped_among lines else skipped_among lines

-- how many lines of a list, given by its bytes, are skipped since they are not UTF-8
abbrev pub skipped_in : List ℕ → ℕ
skipped_in bytes = skipped_among (lines (without_mark bytes))

-- the names in a list and how many lines are skipped, from its bytes, or from the reason why these are of no use
abbrev pub list_look_of : Result (List ℕ) Unusable → Result (List (List ℕ) × ℕ) Unusable
list_look_of (Err fault) = Err fault
list_look_of (Ok bytes) = Ok (names_listed bytes, skipped_in bytes)

-- The list of this name is what `found` says, by the bytes that the shelf tells of it: of no use for a reason, or names
-- and so many skipped lines. Nothing is said where the shelf does not tell its files.
abbrev pub ListLooks : (name : List ℕ) → ShelfTold → Result (List (List ℕ) × ℕ) Unusable → Type 0
ListLooks name told found = ForSome told.files (λ files. list_look_of (bytes_in (2 ^ 20) (file_at files name)) ≡ found)

-- What a look at the list (an `.m3u` file) of this name answered is true. `Unread` comes only if the shelf's count of
-- failed reads rose, from `old` to `new`, and any other answer is what the list's bytes say.
abbrev pub IsListLook : (name : List ℕ) → (old new : ShelfTold) → ListLook → Type 0
IsListLook name old new list_look.Unread = Rose old.reads new.reads
IsListLook name old new (list_look.Bad fault) = ListLooks name old (Err fault)
IsListLook name old new (list_look.Names names skipped) = ListLooks name old (Ok (names.items, skipped))

-- For how many bytes a file counts that was looked at, if a plan may use it by itself; otherwise why it is not used.
-- The rules have the most bytes of one file.
abbrev pub counted_as : Rules → Look → Result ℕ Unusable
counted_as rules Unread = Err NotThere
counted_as rules (Bad fault) = Err fault
counted_as rules (Sound facts) = if nat_le facts.bytes rules.file then Ok facts.bytes else Err TooLong
