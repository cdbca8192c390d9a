-- What the first bytes of a WAV file and the number of all its bytes tell of it.
use Rattle.std.specs.Prelude.{◌≡◌, ◌<◌, ◌≤◌, ℕ, ◌+◌, ◌*◌, ◌-◌, ◌/◌, min, Bool, List, length, take, drop, Result, Ok, Err}
use Rattle.liq_base.specs.Pieces.{IsPrefix}
use Rattle.liq_base.specs.declared.memory.Kind.{Kind}
use Rattle.wav_io.specs.Header.{block_align}
use Rattle.wav_io.specs.Reading.{place_of, read_of, Wav}
use Rattle.wav_io.specs.declared.chunks.Chunk.{Chunk}
use Rattle.wav_io.specs.declared.head.Head.{Head}
use Rattle.wav_io.specs.declared.fault.WavFault.{WavFault}

-- How many bytes of whole blocks a `data` chunk has in a file of `size` bytes, which may end before the chunk does. A
-- block is one sample for each channel, of 24 bits if `wide`, else of 16.
abbrev pub blocks_size : Bool → Kind → ℕ → Chunk → ℕ
blocks_size wide kind size chunk =
    min chunk.size (size - (chunk.place + 8)) / block_align wide kind * block_align wide kind

-- what a WAV file holds whose format, and the place and size of whose samples, are in `head`
abbrev pub wav_at : List ℕ → Head → Wav
wav_at bytes head = record {
  kind = head.kind;
  rate = head.rate;
  wide = head.wide;
  body = take head.size (drop head.at bytes);
}

-- `size` bytes are whole blocks, and at least one; a block is one sample for each channel, of 24 bits if `wide`, else
-- of 16
pub record AreWhole (wide : Bool) (kind : Kind) (size : ℕ) : Type 0 where
  pub count : ℕ
  pub some : 0 < count
  pub whole : size ≡ count * block_align wide kind

-- The bytes are a WAV file that can be read, and `head` is right for it: its format, and where its samples are and how
-- many bytes they have.
pub record IsHeadOf (bytes : List ℕ) (head : Head) : Type 0 where
  pub read : read_of bytes ≡ Ok (wav_at bytes head)
  pub place : head.at ≡ place_of bytes
  pub sized : length (wav_at bytes head).body ≡ head.size
  pub there : head.at + head.size ≤ length bytes
  pub rate : 0 < head.rate
  pub blocks : AreWhole head.wide head.kind head.size

-- a WAV file has this head, which is its format with the place and size of its samples, or has this first fault
abbrev pub IsToldOf : List ℕ → Result Head WavFault → Type 0
IsToldOf bytes (Ok head) = IsHeadOf bytes head
IsToldOf bytes (Err fault) = read_of bytes ≡ Err fault

-- The first bytes of a WAV file and its size tell its head or its first fault. Each file of `size` bytes that begins
-- with `front` has this one. The head is the format with the place and size of the samples.
abbrev pub IsToldBy : (front : List ℕ) → (size : ℕ) → Result Head WavFault → Type 0
IsToldBy front size told = (bytes : List ℕ) → IsPrefix front bytes → length bytes ≡ size → IsToldOf bytes told
