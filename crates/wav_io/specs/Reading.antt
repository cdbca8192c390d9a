-- What the bytes of a WAV file say: a kind, a rate and blocks, or why there are none. `docs/formats.md` has the rows.
use Rattle.std.specs.Prelude.{◌≡◌, ◌<◌, ℕ, ◌+◌, ◌*◌, ◌/◌, ◌&&◌, ◌||◌, List, [], ◌∷◌, length, take, drop, Bool, Option, Some, None, Result, Ok, Err, if◌then◌else◌, nat_eq, nat_le, nat_lt, codes}
use Rattle.std.specs.Str.{bytes_eq}
use Rattle.byteorder.specs.Endian.{little_number}
use Rattle.liq_base.specs.declared.memory.Kind.{Kind}
use Rattle.liq_base.specs.declared.memory.Kind.TheVariants.{Mono, Stereo}
use Rattle.wav_io.specs.Header.{block_align}
use Rattle.wav_io.specs.Chunks.{chunks_of, first_named, before_named}
use Rattle.wav_io.specs.declared.chunks.Chunk.{Chunk}
use Rattle.wav_io.specs.declared.format.Format.{Format}
use Rattle.wav_io.specs.declared.fault.WavFault.{WavFault}
use Rattle.wav_io.specs.declared.fault.WavFault.TheVariants.{NotRiff, NoFormat, BadFormat, NotPcm, NoData, Empty}

-- What a WAV file holds: its kind, mono or stereo, its samples a second, whether a sample has 24 bits (`wide`) in place
-- of 16, and the bytes of its samples.
pub record Wav : Type 0 where
  pub kind : Kind
  pub rate : ℕ
  pub wide : Bool
  pub body : List ℕ

-- whether a file begins with `RIFF`, four bytes that are not looked at, and `WAVE`
abbrev pub is_riff : List ℕ → Bool
is_riff bytes = nat_le 12 (length bytes) && bytes_eq (take 4 bytes) (codes "RIFF")
    && bytes_eq (take 4 (drop 8 bytes)) (codes "WAVE")

-- the first `fmt ` chunk, unless a `data` chunk stands before it
abbrev pub format_chunk : List Chunk → Option Chunk
format_chunk chunks = first_named (codes "fmt ") (before_named (codes "data") chunks)

-- the bytes of a chunk's body, without its name and size, as far as the file has them
abbrev pub body_of : List ℕ → Chunk → List ℕ
body_of bytes chunk = take chunk.size (drop (chunk.place + 8) bytes)

-- the byte at which the body of a chunk begins, behind its name and size; 0 where there is no chunk
abbrev pub behind_head : Option Chunk → ℕ
behind_head None = 0
behind_head (Some chunk) = chunk.place + 8

-- the byte at which the samples of a WAV file begin, which is behind the head of its first `data` chunk; 0 if it has
-- none
abbrev pub place_of : List ℕ → ℕ
place_of bytes = behind_head (first_named (codes "data") (chunks_of bytes))

-- whether the body of a `fmt ` chunk of this size can be read: it has 16, 18 or 40 bytes, and the file has them all
abbrev pub is_format_body : List ℕ → ℕ → Bool
is_format_body body size = (nat_eq size 16 || nat_eq size 18 || nat_eq size 40) && nat_eq (length body) size

-- the number in `width` bytes of a chunk's body, from byte `place` on, the lowest byte first
abbrev pub field : List ℕ → ℕ → ℕ → ℕ
field body place width = little_number width (drop place body)

-- the 16 bytes by which a `fmt ` chunk of 40 bytes, the extensible form, says that its samples are whole numbers
abbrev pub pcm_guid : List ℕ
pcm_guid = 0x01 ∷ 0x00 ∷ 0x00 ∷ 0x00 ∷ 0x00 ∷ 0x00 ∷ 0x10 ∷ 0x00 ∷ 0x80 ∷ 0x00 ∷ 0x00 ∷ 0xaa ∷ 0x00 ∷ 0x38 ∷ 0x9b ∷ 0x71
    ∷ []

-- whether the body of a `fmt ` chunk has 40 bytes, the extensible form, and says that the samples are whole numbers
abbrev pub has_pcm_guid : List ℕ → Bool
has_pcm_guid body = nat_eq (length body) 40 && bytes_eq (drop 24 body) pcm_guid

-- whether the body of a `fmt ` chunk says that the samples are whole numbers: by tag 1, or by the tag and the GUID of
-- the extensible form
abbrev pub is_pcm : List ℕ → Bool
is_pcm body = nat_eq (field body 0 2) 1 || (nat_eq (field body 0 2) 0xFFFE && has_pcm_guid body)

-- the kind, mono or stereo, of a file with so many channels; None if there are not one or two
abbrev pub kind_by_channels : ℕ → Option Kind
kind_by_channels channels = if nat_eq channels 1 then Some Mono else if nat_eq channels 2 then Some Stereo else None

-- whether samples of so many bits can be read: 16 or 24
abbrev pub is_width : ℕ → Bool
is_width bits = nat_eq bits 16 || nat_eq bits 24

-- The format of this kind and rate, or the fault that it is bad. There must be a kind, the rate be above 0, and
-- `block`, the bytes of one sample for each channel, be right. `wide` says that a sample has 24 bits in place of 16.
abbrev pub checked_format : Bool → Option Kind → ℕ → ℕ → Result Format WavFault
checked_format wide None rate block = Err BadFormat
checked_format wide (Some kind) rate block =
    if nat_lt 0 rate && nat_eq block (block_align wide kind) then Ok (record {
      kind = kind;
      rate = rate;
      wide = wide;
    }) else Err BadFormat

-- the format that the body of a `fmt ` chunk gives, where the chunk says that it has `size` bytes, or its fault
abbrev pub format_in : List ℕ → ℕ → Result Format WavFault
format_in body size =
    if is_format_body body size then
    if is_width (field body 14 2) && is_pcm body
    then checked_format (nat_eq (field body 14 2) 24) (kind_by_channels (field body 2 2)) (field body 4 4)
    (field body 12 2)
    else Err NotPcm
    else Err BadFormat

-- the whole blocks at the beginning of the bytes of samples; a block is one sample for each channel, of 24 bits if
-- `wide`, else of 16
abbrev pub whole_blocks : Bool → Kind → List ℕ → List ℕ
whole_blocks wide kind body = take (length body / block_align wide kind * block_align wide kind) body

-- the bytes are whole blocks, and at least one; a block is one sample for each channel, of 24 bits if `wide`, else of
-- 16
pub record AreBlocks (wide : Bool) (kind : Kind) (body : List ℕ) : Type 0 where
  pub count : ℕ
  pub some : 0 < count
  pub whole : length body ≡ count * block_align wide kind

-- what a WAV file of this format with these bytes of samples holds, or the fault that there are none
abbrev pub with_blocks : Format → List ℕ → Result Wav WavFault
with_blocks format blocks = if nat_eq (length blocks) 0 then Err Empty else Ok (record {
  kind = format.kind;
  rate = format.rate;
  wide = format.wide;
  body = blocks;
})

-- What the WAV file `bytes` of this format holds, by its first `data` chunk. That is the whole blocks in it, of one
-- sample for each channel, or the fault that there is no chunk or no block.
abbrev pub data_step : List ℕ → Format → Option Chunk → Result Wav WavFault
data_step bytes format None = Err NoData
data_step bytes format (Some chunk) = with_blocks format (whole_blocks format.wide format.kind (body_of bytes chunk))

-- what the WAV file `bytes` holds, by its format or the fault of that, and its first `data` chunk, if it has one
abbrev pub format_step : List ℕ → Result Format WavFault → Option Chunk → Result Wav WavFault
format_step bytes (Err fault) samples = Err fault
format_step bytes (Ok format) samples = data_step bytes format samples

-- what the WAV file `bytes` holds, by its `fmt ` chunk and then its first `data` chunk, or the fault that one is
-- missing or wrong
abbrev pub chunk_step : List ℕ → Option Chunk → Option Chunk → Result Wav WavFault
chunk_step bytes None samples = Err NoFormat
chunk_step bytes (Some chunk) samples = format_step bytes (format_in (body_of bytes chunk) chunk.size) samples

-- what the WAV file `bytes` holds, or the first fault that it has
abbrev pub read_of : List ℕ → Result Wav WavFault
read_of bytes = if is_riff bytes
    then chunk_step bytes (format_chunk (chunks_of bytes)) (first_named (codes "data") (chunks_of bytes))
    else Err NotRiff
