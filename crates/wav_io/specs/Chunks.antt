-- The chunks that a reader of the RIFF standard finds in a file: a name of four bytes, a size in four, a body of this
-- size, and a pad byte where the size is odd.
use Rattle.std.specs.Prelude.{◌≡◌, ◌<◌, ◌≤◌, ℕ, zero, suc, ◌+◌, ◌%◌, List, [], ◌∷◌, length, take, drop, Option, Some, None, nat_le, if◌then◌else◌}
use Rattle.std.specs.Str.{bytes_eq}
use Rattle.byteorder.specs.Endian.{little_number}
use Rattle.wav_io.specs.declared.chunks.Chunk.{Chunk}

-- the chunk of a file that begins at byte `place`: a name of four bytes, the size in four bytes, and this place
abbrev pub chunk_at : List ℕ → ℕ → Chunk
chunk_at bytes place = record {
  name = take 4 (drop place bytes);
  size = little_number 4 (drop (place + 4) bytes);
  place = place;
}

-- the byte behind a chunk: behind its name and size, its body, and the pad byte if the size is odd
abbrev pub place_behind : Chunk → ℕ
place_behind chunk = chunk.place + 8 + chunk.size + chunk.size % 2

-- these are all chunks of a file from byte `place` on, each right behind the one before, as long as the eight bytes of
-- a name and a size are there
abbrev pub AreChunks : List ℕ → ℕ → List Chunk → Type 0
AreChunks bytes place [] = length bytes < place + 8
AreChunks bytes place (chunk ∷ chunks) = (place + 8 ≤ length bytes) × (chunk ≡ chunk_at bytes place)
    × AreChunks bytes (place_behind chunk) chunks

-- the chunks of a file from byte `place` on, each right behind the one before, and no more than `most`
unfoldable pub chunks_from : ℕ → List ℕ → ℕ → List Chunk
chunks_from zero bytes place = []
chunks_from (suc most) bytes place =
    if nat_le (place + 8) (length bytes) then chunk_at bytes place
    ∷ chunks_from most bytes (place_behind (chunk_at bytes place)) else []

-- all chunks of a file from byte `place` on; the file has more bytes than chunks, so that none is left out
abbrev pub chunks_behind : List ℕ → ℕ → List Chunk
chunks_behind bytes place = chunks_from (length bytes) bytes place

-- the chunks of a file: the first comes after `RIFF`, the size of the rest, and `WAVE`
abbrev pub chunks_of : List ℕ → List Chunk
chunks_of bytes = chunks_behind bytes 12

-- the first of these chunks with this name, if there is one
abbrev pub first_named : List ℕ → List Chunk → Option Chunk
first_named name [] = None
first_named name (chunk ∷ chunks) = if bytes_eq chunk.name name then Some chunk else first_named name chunks

-- the chunks before the first one with this name; all of them if there is none
abbrev pub before_named : List ℕ → List Chunk → List Chunk
before_named name [] = []
before_named name (chunk ∷ chunks) = if bytes_eq chunk.name name then [] else chunk ∷ before_named name chunks
