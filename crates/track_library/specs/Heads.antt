-- What is told of an audio file by its head and the number of its bytes, and what it counts for.
use Rattle.std.specs.Prelude.{◌≡◌, ◌≤◌, ℕ, ◌+◌, ◌*◌, ◌/◌, max, Bool, List, length, Option, Some, Result, Ok, Err, if◌then◌else◌, nat_le}
use Rattle.std.specs.Option.{ForSome}
use Rattle.liq_base.specs.Files.{Files, file_at}
use Rattle.liq_base.specs.Kinds.{channels_of}
use Rattle.liq_base.specs.Pieces.{IsPrefix}
use Rattle.wav_io.specs.Fronts.{IsHeadOf}
use Rattle.wav_io.specs.declared.head.Head.{Head}
use Rattle.track_library.specs.Walk.{bytes_in, wav_opened}
use Rattle.resample.specs.Resampled.{output_length}
use Rattle.track_library.specs.declared.rules.Rules.{Rules}
use Rattle.track_library.specs.declared.fault.Unusable.{Unusable}
use Rattle.track_library.specs.declared.fault.Unusable.TheVariants.{TooLong}

-- how many samples stand in `size` bytes of audio data: three bytes each where they are `wide` (24 bits), else two
abbrev pub samples_in : (wide : Bool) → (size : ℕ) → ℕ
samples_in wide size = if wide then size / 3 else size / 2

-- how many blocks a WAV file with this head has; a block is one sample for each channel
abbrev pub blocks_in : Head → ℕ
blocks_in head = samples_in head.wide head.size / channels_of head.kind

-- how many bytes a WAV file of 16 bits has (44 of header and 2 a sample) that holds the sound of a file with this head,
-- changed to the rate `rate`
abbrev pub written_size : Head → (rate : ℕ) → ℕ
written_size head rate = 44 + 2 * channels_of head.kind * output_length (blocks_in head) head.rate rate

-- the number of bytes for which a file counts (`count`), or the fault that it is too long where these are more than
-- `most`
abbrev pub count_of_at_most : (most count : ℕ) → Result ℕ Unusable
count_of_at_most most count = if nat_le count most then Ok count else Err TooLong

-- how many bytes a file with this head and of `size` bytes counts for against the limits, or the fault that it is too
-- long where the rules let one file have fewer
abbrev pub head_count : Rules → Head → (size : ℕ) → Result ℕ Unusable
head_count rules head size = count_of_at_most rules.file (max size (written_size head rules.rate))

-- What reading these bytes of a file as a WAV file answered is right: they are a WAV file with this head, and so many,
-- or they are no WAV file, for this reason.
abbrev pub IsHeadIn : List ℕ → Result (Head × ℕ) Unusable → Type 0
IsHeadIn bytes (Ok (head, size)) = IsHeadOf bytes head × (length bytes ≡ size)
IsHeadIn bytes (Err fault) = wav_opened (Ok bytes) ≡ Err fault

-- These are the bytes of the file `name` on the shelf, `size` in number and at most `most`. If the shelf does not tell
-- its files, only their number is said.
pub record IsFile (name : List ℕ) (most : ℕ) (files : Option Files) (size : ℕ) (bytes : List ℕ) : Type 0 where
  pub sized : length bytes ≡ size
  pub fits : size ≤ most
  pub is_file : ForSome files (λ all. file_at all name ≡ Some bytes)

-- the file `name` on the shelf cannot be read as a WAV file of at most `most` bytes, for this reason; nothing is said
-- where the shelf does not tell its files
abbrev pub IsUnread : (name : List ℕ) → (most : ℕ) → Option Files → Unusable → Type 0
IsUnread name most files fault = ForSome files (λ all. wav_opened (bytes_in most (file_at all name)) ≡ Err fault)

-- The file `name` on the shelf is a WAV file with this head and has `size` bytes, at most `most`. If the shelf does not
-- tell its files, some bytes are so.
pub record HeadFound (name : List ℕ) (most : ℕ) (files : Option Files) (head : Head) (size : ℕ) : Type 0 where
  pub bytes : List ℕ
  pub told : IsHeadOf bytes head
  pub file : IsFile name most files size bytes

-- What was found of the file `name` on the shelf is right: its head and the number of its bytes, at most `most`, or why
-- it cannot be read as a WAV file.
abbrev pub IsFoundHead : (name : List ℕ) → (most : ℕ) → Option Files → Result (Head × ℕ) Unusable → Type 0
IsFoundHead name most files (Ok (head, size)) = HeadFound name most files head size
IsFoundHead name most files (Err fault) = IsUnread name most files fault

-- The file `name` on the shelf begins with the bytes `front`, and has `size` bytes, at most `most`. If the shelf does
-- not tell its files, some bytes are so.
pub record FrontOf (name : List ℕ) (most : ℕ) (files : Option Files) (front : List ℕ) (size : ℕ) : Type 0 where
  pub bytes : List ℕ
  pub is_front : IsPrefix front bytes
  pub file : IsFile name most files size bytes

-- What was found of the file `name` on the shelf is right: it begins with the bytes `front` and has so many, at most
-- `most`, or why it cannot be read as a WAV file.
abbrev pub IsFoundFront : (name : List ℕ) → (most : ℕ) → Option Files → (front : List ℕ) → Result ℕ Unusable → Type 0
IsFoundFront name most files front (Ok size) = FrontOf name most files front size
IsFoundFront name most files front (Err fault) = IsUnread name most files fault
