-- What holds of each file that is read: its rate is above 0, and 44 bytes stand beside its blocks, which are whole.
use Rattle.std.proofs.Common.{◌≡◌, ◌≤◌, ◌<◌, ℕ, ◌+◌, ◌-◌, ◌∷◌, [], List, length, cond, Bool, true, false, refl, ap, ◌∙◌, arith, length-drop, subst}
use Rattle.std.specs.Prelude.{Option, Some, None, Result, Ok, Err, codes, nat_eq, nat_lt, ◌&&◌, ◌||◌}
use Rattle.std.specs.Str.{bytes_eq}
use Rattle.std.proofs.lemmas.Bool.{and_parts, ltb-true}
use Rattle.std.proofs.lemmas.Bool.Decides.{nat_tests}
use Rattle.std.proofs.lemmas.List.{length-take}
use Rattle.liq_base.specs.declared.memory.Kind.{Kind}
use Rattle.wav_io.specs.Chunks.{AreChunks, place_behind, before_named, chunks_of, first_named}
use Rattle.wav_io.specs.Header.{block_align}
use Rattle.wav_io.specs.Reading.{AreBlocks, Wav, body_of, checked_format, chunk_step, data_step, field, format_chunk, format_in, format_step, is_format_body, is_pcm, is_riff, is_width, kind_by_channels, read_of, whole_blocks}
use Rattle.wav_io.specs.declared.chunks.Chunk.{Chunk}
use Rattle.wav_io.specs.declared.format.Format.{Format}
use Rattle.wav_io.specs.declared.fault.WavFault.{WavFault}
use Rattle.wav_io.proofs.Blocks.{are_blocks}
use Rattle.wav_io.proofs.Steps.{are_chunks}

-- a choice with a fault on one side, that has none
first_way : {X : Type 0} (b : Bool) (r : Result X WavFault) (e : WavFault) (x : X) → cond b r (Err e) ≡ Ok x → (b ≡ true) × (r ≡ Ok x)
first_way true r e x is = (refl, is)
first_way false r e x is = absurd (cc)

second_way : {X : Type 0} (b : Bool) (e : WavFault) (r : Result X WavFault) (x : X) → cond b (Err e) r ≡ Ok x → (b ≡ false) × (r ≡ Ok x)
second_way true e r x is = absurd (cc)
second_way false e r x is = (refl, is)

abbrev rate_in : Result Format WavFault → ℕ
rate_in (Ok format) = format.rate
rate_in (Err fault) = 0

abbrev file_rate : Result Wav WavFault → ℕ
file_rate (Ok wav) = wav.rate
file_rate (Err fault) = 0

abbrev file_body : Result Wav WavFault → List ℕ
file_body (Ok wav) = wav.body
file_body (Err fault) = []

abbrev HasBlocks : Result Wav WavFault → Type 0
HasBlocks (Ok wav) = AreBlocks wav.wide wav.kind wav.body
HasBlocks (Err fault) = ⊥

-- the rate of a format is above 0, and the body that says so has 16 bytes and more
some_rate : (wide : Bool) (kind : Option Kind) (rate block : ℕ) (format : Format) → checked_format wide kind rate block ≡ Ok format → 0 < format.rate
some_rate wide None rate block format is = absurd (cc)
some_rate wide (Some kind) rate block format is =
    let way = first_way (nat_lt 0 rate && nat_eq block (block_align wide kind)) _ _ format is in
    let same : rate ≡ format.rate = ap rate_in way.1 in
    let some : 0 < rate = ltb-true 0 rate (and_parts (nat_lt 0 rate) (nat_eq block (block_align wide kind)) way.0).0 in
    omega arith

long_body : (size : ℕ) → (nat_eq size 16 || nat_eq size 18 || nat_eq size 40) ≡ true → 16 ≤ size
long_body size is = grind (arith, nat_tests)

record FormatKnown (size : ℕ) (format : Format) : Type 0 where
  rate : 0 < format.rate
  long : 16 ≤ size

known_format : (body : List ℕ) (size : ℕ) (format : Format) → format_in body size ≡ Ok format → FormatKnown size format
known_format body size format is =
    let sized = first_way (is_format_body body size) _ _ format is in
    let pcm = first_way (is_width (field body 14 2) && is_pcm body) _ _ format sized.1 in
    record {
      rate = some_rate (nat_eq (field body 14 2) 24) (kind_by_channels (field body 2 2)) (field body 4 4) (field body 12 2) format pcm.1;
      long = long_body size (and_parts (nat_eq size 16 || nat_eq size 18 || nat_eq size 40) (nat_eq (length body) size) sized.0).0;
    }

-- a chunk that is found stands behind the place from which it is looked for
pub named_there : (bytes : List ℕ) (place : ℕ) (name : List ℕ) (chunks : List Chunk) (found : Chunk) → AreChunks bytes place chunks → first_named name chunks ≡ Some found
    → (place ≤ found.place) × (found.place + 8 ≤ length bytes)
named_there bytes place name [] found are is = absurd (cc)
named_there bytes place name (chunk ∷ chunks) found are is =
    at_test (bytes_eq chunk.name name) is (λ later. named_there bytes (place_behind chunk) name chunks found are.2 later) where
      at_test : (b : Bool) → cond b (Some chunk) (first_named name chunks) ≡ Some found
          → (first_named name chunks ≡ Some found → (place_behind chunk ≤ found.place) × (found.place + 8 ≤ length bytes))
          → (place ≤ found.place) × (found.place + 8 ≤ length bytes)
      at_test true here later =
          let same : chunk ≡ found = cc in
          let placed : chunk.place ≡ place = ap (λ (c : Chunk). c.place) are.1 in
          let there : chunk.place ≡ found.place = ap (λ (c : Chunk). c.place) same in
          let long = are.0 in
          (omega arith, omega arith)
      at_test false there later =
          let placed : chunk.place ≡ place = ap (λ (c : Chunk). c.place) are.1 in
          let rest = later there in
          (omega (arith, rest.0, placed), rest.1)

-- the data stand behind the body of the format
data_behind : (bytes : List ℕ) (place : ℕ) (chunks : List Chunk) (format samples : Chunk) → AreChunks bytes place chunks → format_chunk chunks ≡ Some format
    → first_named (codes "data") chunks ≡ Some samples → place + 8 + format.size ≤ samples.place
data_behind bytes place [] format samples are is held = absurd (cc)
data_behind bytes place (chunk ∷ chunks) format samples are is held =
    at_data (bytes_eq chunk.name (codes "data")) is held (λ later there. data_behind bytes (place_behind chunk) chunks format samples are.2 later there) where
      at_format : (b : Bool) → cond b (Some chunk) (format_chunk chunks) ≡ Some format → first_named (codes "data") chunks ≡ Some samples
          → (format_chunk chunks ≡ Some format → first_named (codes "data") chunks ≡ Some samples → place_behind chunk + 8 + format.size ≤ samples.place)
          → place + 8 + format.size ≤ samples.place
      at_format true here there later =
          let same : chunk ≡ format = cc in
          let placed : chunk.place ≡ place = ap (λ (c : Chunk). c.place) are.1 in
          let size : chunk.size ≡ format.size = ap (λ (c : Chunk). c.size) same in
          let rest = named_there bytes (place_behind chunk) (codes "data") chunks samples are.2 there in
          omega (arith, rest.0, placed, size)
      at_format false next there later =
          let placed : chunk.place ≡ place = ap (λ (c : Chunk). c.place) are.1 in
          let rest = later next there in
          omega (arith, rest, placed)

      at_data : (b : Bool) → first_named (codes "fmt ") (cond b [] (chunk ∷ before_named (codes "data") chunks)) ≡ Some format
          → cond b (Some chunk) (first_named (codes "data") chunks) ≡ Some samples
          → (format_chunk chunks ≡ Some format → first_named (codes "data") chunks ≡ Some samples → place_behind chunk + 8 + format.size ≤ samples.place)
          → place + 8 + format.size ≤ samples.place
      at_data true here there later = absurd (cc)
      at_data false here there later = at_format (bytes_eq chunk.name (codes "fmt ")) here there later

-- the blocks stand in the body of the data
record DataKnown (bytes : List ℕ) (format : Format) (samples : Option Chunk) (wav : Wav) : Type 0 where
  chunk : Chunk
  found : samples ≡ Some chunk
  rate : format.rate ≡ wav.rate
  blocks : AreBlocks wav.wide wav.kind wav.body
  within : length wav.body ≤ length bytes - (chunk.place + 8)

some_bytes : (n : ℕ) → nat_eq n 0 ≡ false → 0 < n
some_bytes n other = grind (arith, nat_tests)

within_body : (wide : Bool) (kind : Kind) (bytes : List ℕ) (chunk : Chunk) → length (whole_blocks wide kind (body_of bytes chunk)) ≤ length bytes - (chunk.place + 8)
within_body wide kind bytes chunk = simp (length-take, length-drop) (omega arith)

known_data : (bytes : List ℕ) (format : Format) (samples : Option Chunk) (wav : Wav) → data_step bytes format samples ≡ Ok wav → DataKnown bytes format samples wav
known_data bytes format None wav is = absurd (cc)
known_data bytes format (Some chunk) wav is =
    let blocks = whole_blocks format.wide format.kind (body_of bytes chunk) in
    let way = second_way (nat_eq (length blocks) 0) _ _ wav is in
    let some : 0 < length blocks = some_bytes (length blocks) way.0 in
    let long : length blocks ≤ length bytes - (chunk.place + 8) = within_body format.wide format.kind bytes chunk in
    record {
      chunk = chunk;
      found = refl;
      rate = ap file_rate way.1;
      blocks = subst HasBlocks way.1 (are_blocks format.wide format.kind (body_of bytes chunk) some);
      within = subst (λ (r : Result Wav WavFault). length (file_body r) ≤ length bytes - (chunk.place + 8)) way.1 long;
    }

pub record IsFile (bytes : List ℕ) (wav : Wav) : Type 0 where
  pub blocks : AreBlocks wav.wide wav.kind wav.body
  pub rate : 0 < wav.rate
  pub heads : 44 + length wav.body ≤ length bytes

in_format : (bytes : List ℕ) (chunk : Chunk) (samples : Option Chunk) (wav : Wav) → format_chunk (chunks_of bytes) ≡ Some chunk
    → first_named (codes "data") (chunks_of bytes) ≡ samples → (found : Result Format WavFault) → format_in (body_of bytes chunk) chunk.size ≡ found
    → format_step bytes found samples ≡ Ok wav → IsFile bytes wav
in_format bytes chunk samples wav first held (Err fault) said is = absurd (cc)
in_format bytes chunk samples wav first held (Ok format) said is =
    let has = known_data bytes format samples wav is in
    let formed = known_format (body_of bytes chunk) chunk.size format said in
    let there = named_there bytes 12 (codes "data") (chunks_of bytes) has.chunk (are_chunks bytes 12) (held ∙ has.found) in
    let after = data_behind bytes 12 (chunks_of bytes) chunk has.chunk (are_chunks bytes 12) first (held ∙ has.found) in
    record {
      blocks = has.blocks;
      rate = omega (arith, has.rate, formed.rate);
      heads = omega (arith, has.within, formed.long, there.1, after);
    }

in_chunks : (bytes : List ℕ) (format samples : Option Chunk) (wav : Wav) → format_chunk (chunks_of bytes) ≡ format → first_named (codes "data") (chunks_of bytes) ≡ samples
    → chunk_step bytes format samples ≡ Ok wav → IsFile bytes wav
in_chunks bytes None samples wav first held is = absurd (cc)
in_chunks bytes (Some chunk) samples wav first held is = in_format bytes chunk samples wav first held (format_in (body_of bytes chunk) chunk.size) refl is

pub is_file : (bytes : List ℕ) (wav : Wav) → read_of bytes ≡ Ok wav → IsFile bytes wav
is_file bytes wav is =
    let way = first_way (is_riff bytes) _ _ wav is in
    in_chunks bytes (format_chunk (chunks_of bytes)) (first_named (codes "data") (chunks_of bytes)) wav refl refl way.1
