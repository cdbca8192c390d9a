-- The header of a WAV file with samples of 16 bits or 24.
use Rattle.std.specs.Prelude.{ℕ, ◌+◌, ◌*◌, ◌%◌, ◌^◌, Bool, List, ◌++◌, Option, Some, None, if◌then◌else◌, nat_lt, codes}
use Rattle.byteorder.specs.Endian.{little_bytes}
use Rattle.liq_base.specs.Kinds.{channels_of}
use Rattle.liq_base.specs.declared.memory.Kind.{Kind}

-- how many bytes one sample for each channel takes, which is a block, where a sample has 16 bits
abbrev pub block_size : Kind → ℕ
block_size kind = 2 * channels_of kind

-- how many bytes one sample for each channel takes, which is a block, where a sample has 24 bits
abbrev pub wide_block : Kind → ℕ
wide_block kind = 3 * channels_of kind

-- how many bytes one sample for each channel takes, which is a block; with true a sample has 24 bits, else 16
abbrev pub block_align : Bool → Kind → ℕ
block_align wide kind = if wide then wide_block kind else block_size kind

-- a number in four bytes, the lowest one first
abbrev pub four_bytes : ℕ → List ℕ
four_bytes n = little_bytes 4 n

-- a number in two bytes, the lower one first
abbrev pub two_bytes : ℕ → List ℕ
two_bytes n = little_bytes 2 n

-- the 44 bytes before so many samples of 16 bits of each channel, at `rate` samples a second
unfoldable pub header_bytes : Kind → ℕ → ℕ → List ℕ
header_bytes kind rate samples =
    codes "RIFF" ++ four_bytes (36 + samples * block_size kind) ++ codes "WAVE"
    ++ codes "fmt " ++ four_bytes 16 ++ two_bytes 1 ++ two_bytes (channels_of kind)
    ++ four_bytes rate ++ four_bytes (rate * block_size kind) ++ two_bytes (block_size kind) ++ two_bytes 16
    ++ codes "data" ++ four_bytes (samples * block_size kind)

-- the header of a WAV file of so many samples of 16 bits of each channel, at `rate` samples a second; None if a size
-- does not fit in four bytes
abbrev pub header_of : Kind → ℕ → ℕ → Option (List ℕ)
header_of kind rate samples =
    if nat_lt (36 + samples * block_size kind) (2 ^ 32) then Some (header_bytes kind rate samples) else None

-- how many bytes the body of a chunk takes in a file, with the pad byte behind an odd size
abbrev pub padded : ℕ → ℕ
padded size = size + size % 2

-- the 44 bytes before so many samples of 24 bits of each channel, at `rate` samples a second; the size of the file
-- counts the byte after odd data
unfoldable pub wide_header_bytes : Kind → ℕ → ℕ → List ℕ
wide_header_bytes kind rate samples =
    codes "RIFF" ++ four_bytes (36 + padded (samples * wide_block kind)) ++ codes "WAVE"
    ++ codes "fmt " ++ four_bytes 16 ++ two_bytes 1 ++ two_bytes (channels_of kind)
    ++ four_bytes rate ++ four_bytes (rate * wide_block kind) ++ two_bytes (wide_block kind) ++ two_bytes 24
    ++ codes "data" ++ four_bytes (samples * wide_block kind)

-- the header of a WAV file of so many samples of 24 bits of each channel, at `rate` samples a second; None if a size
-- does not fit in four bytes
abbrev pub wide_header_of : Kind → ℕ → ℕ → Option (List ℕ)
wide_header_of kind rate samples =
    if nat_lt (36 + padded (samples * wide_block kind)) (2 ^ 32) then Some (wide_header_bytes kind rate samples)
    else None

-- The header of a WAV file of so many samples of each channel, at `rate` samples a second. With true a sample has 24
-- bits, else 16. None if a size does not fit in four bytes.
abbrev pub header_at : Bool → Kind → ℕ → ℕ → Option (List ℕ)
header_at wide kind rate samples = if wide then wide_header_of kind rate samples else header_of kind rate samples
