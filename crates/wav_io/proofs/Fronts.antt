-- A front of a file, with the head of its first data chunk in it, and the number of its bytes tell its head.
use Rattle.std.proofs.Common.{◌≡◌, ◌≤◌, ◌<◌, ◌≢◌, ℕ, zero, suc, ◌+◌, ◌-◌, ◌*◌, ◌/◌, ◌∷◌, [], ◌++◌, List, length, take, drop, cond, Bool, true, false, refl, sym, ap, ◌∙◌, arith, subst, inl, inr, length-drop, length-append}
use Rattle.std.specs.Prelude.{◌⊎◌, min, nat_eq, Some, None, Ok, Err, codes}
use Rattle.std.specs.Str.{bytes_eq}
use Rattle.std.proofs.lemmas.Bool.{le-leb}
use Rattle.std.proofs.lemmas.Bool.Decides.{nat_tests}
use Rattle.std.proofs.lemmas.List.{take-append-le, drop-append-le, take-take, length-take, length-take-le}
use Rattle.byteorder.specs.Endian.{little_from}
use Rattle.byteorder.specs.Numbers.{little_from-append}
use Rattle.liq_base.specs.Pieces.{IsPrefix}
use Rattle.liq_base.specs.declared.memory.Kind.{Kind}
use Rattle.liq_base.specs.declared.memory.Kind.TheVariants.{Mono, Stereo}
use Rattle.wav_io.specs.Chunks.{AreChunks, chunk_at, chunks_from, chunks_of, place_behind, first_named, before_named}
use Rattle.wav_io.specs.Header.{block_align}
use Rattle.wav_io.specs.Reading.{behind_head, body_of, chunk_step, format_chunk, format_in, format_step, is_riff, place_of, read_of, whole_blocks, with_blocks}
use Rattle.wav_io.specs.Fronts.{blocks_size, wav_at, IsHeadOf, IsToldBy}
use Rattle.wav_io.specs.declared.chunks.Chunk.{Chunk}
use Rattle.wav_io.specs.declared.format.Format.{Format}
use Rattle.wav_io.specs.declared.head.Head.{Head}
use Rattle.wav_io.specs.declared.fault.WavFault.{WavFault}
use Rattle.wav_io.specs.declared.fault.WavFault.TheVariants.{NotRiff, NoFormat, Empty}
use Rattle.wav_io.proofs.Heads.{is_file, named_there}
use Rattle.wav_io.proofs.Steps.{are_chunks, no_chunk, one_chunk, within_or}

-- what is found among the first chunks is found among all
found_first : (name : List ℕ) (chunks more : List Chunk) (found : Chunk) → first_named name chunks ≡ Some found → first_named name (chunks ++ more) ≡ Some found
found_first name [] more found is = absurd (cc)
found_first name (chunk ∷ chunks) more found is = at_test (bytes_eq chunk.name name) is (found_first name chunks more found) where
  at_test : (b : Bool) → cond b (Some chunk) (first_named name chunks) ≡ Some found → (first_named name chunks ≡ Some found → first_named name (chunks ++ more) ≡ Some found)
      → cond b (Some chunk) (first_named name (chunks ++ more)) ≡ Some found
  at_test true here later = here
  at_test false there later = later there

-- what stands before it is the same
before_first : (name : List ℕ) (chunks more : List Chunk) (found : Chunk) → first_named name chunks ≡ Some found → before_named name (chunks ++ more) ≡ before_named name chunks
before_first name [] more found is = absurd (cc)
before_first name (chunk ∷ chunks) more found is = at_test (bytes_eq chunk.name name) is (before_first name chunks more found) where
  at_test : (b : Bool) → cond b (Some chunk) (first_named name chunks) ≡ Some found → (first_named name chunks ≡ Some found → before_named name (chunks ++ more) ≡ before_named name chunks)
      → cond b [] (chunk ∷ before_named name (chunks ++ more)) ≡ cond b [] (chunk ∷ before_named name chunks)
  at_test true here later = refl
  at_test false there later = ap (λ l. chunk ∷ l) (later there)

-- the body of the format stands before the data
format_before : (bytes : List ℕ) (place : ℕ) (chunks : List Chunk) (format samples : Chunk) → AreChunks bytes place chunks → format_chunk chunks ≡ Some format
    → first_named (codes "data") chunks ≡ Some samples → format.place + 8 + format.size ≤ samples.place
format_before bytes place [] format samples are is held = absurd (cc)
format_before bytes place (chunk ∷ chunks) format samples are is held =
    at_data (bytes_eq chunk.name (codes "data")) is held (format_before bytes (place_behind chunk) chunks format samples are.2) where
      at_format : (b : Bool) → cond b (Some chunk) (format_chunk chunks) ≡ Some format → first_named (codes "data") chunks ≡ Some samples
          → (format_chunk chunks ≡ Some format → first_named (codes "data") chunks ≡ Some samples → format.place + 8 + format.size ≤ samples.place)
          → format.place + 8 + format.size ≤ samples.place
      at_format true here there later =
          let same : chunk ≡ format = cc in
          let placed : chunk.place ≡ format.place = ap (λ (c : Chunk). c.place) same in
          let size : chunk.size ≡ format.size = ap (λ (c : Chunk). c.size) same in
          let rest = named_there bytes (place_behind chunk) (codes "data") chunks samples are.2 there in
          omega (arith, rest.0, placed, size)
      at_format false next there later = later next there

      at_data : (b : Bool) → first_named (codes "fmt ") (cond b [] (chunk ∷ before_named (codes "data") chunks)) ≡ Some format
          → cond b (Some chunk) (first_named (codes "data") chunks) ≡ Some samples
          → (format_chunk chunks ≡ Some format → first_named (codes "data") chunks ≡ Some samples → format.place + 8 + format.size ≤ samples.place)
          → format.place + 8 + format.size ≤ samples.place
      at_data true here there later = absurd (cc)
      at_data false here there later = at_format (bytes_eq chunk.name (codes "fmt ")) here there later

module _ (front rest : List ℕ) where
  -- what stands behind a place of the front stands there in the file
  taken_behind : (n place : ℕ) → place + n ≤ length front → take n (drop place (front ++ rest)) ≡ take n (drop place front)
  taken_behind n place within =
      ap (take n) (drop-append-le place front rest (omega arith)) ∙ take-append-le n (drop place front) rest (omega (arith, length-drop place front))

  same_chunk : (place : ℕ) → place + 8 ≤ length front → chunk_at (front ++ rest) place ≡ chunk_at front place
  same_chunk place within =
      let name : take 4 (drop place (front ++ rest)) ≡ take 4 (drop place front) = taken_behind 4 place (omega arith) in
      let size = ap (λ l. little_from 0 4 l) (drop-append-le (place + 4) front rest (omega arith)) ∙ little_from-append 4 (drop (place + 4) front) rest (omega (arith, length-drop (place + 4) front)) in
      cc

  -- the chunks of the front are the first of the file
  chunks_on : (most more place : ℕ) → most ≤ more → (later : List Chunk) × (chunks_from more (front ++ rest) place ≡ chunks_from most front place ++ later)
  unfolding chunks_from
  chunks_on zero more place few = (chunks_from more (front ++ rest) place, refl)
  chunks_on (suc most) zero place few = absurd (omega arith)
  chunks_on (suc most) (suc more) place few =
      at_place (within_or (place + 8) (length front)) (chunks_on most more (place_behind (chunk_at front place)) (omega arith)) where
        at_place : (place + 8 ≤ length front) ⊎ (length front < place + 8)
            → ((later : List Chunk) × (chunks_from more (front ++ rest) (place_behind (chunk_at front place)) ≡ chunks_from most front (place_behind (chunk_at front place)) ++ later))
            → (later : List Chunk) × (chunks_from (suc more) (front ++ rest) place ≡ chunks_from (suc most) front place ++ later)
        at_place (inl long) on = (
          on.0,
          one_chunk more (front ++ rest) place (omega (arith, length-append front rest))
              ∙ ap (λ c. c ∷ chunks_from more (front ++ rest) (place_behind c)) (same_chunk place long)
              ∙ ap (λ l. chunk_at front place ∷ l) on.1
              ∙ ap (λ l. l ++ on.0) (sym (one_chunk most front place long)),
        )
        at_place (inr short) on =
            (chunks_from (suc more) (front ++ rest) place, ap (λ l. l ++ chunks_from (suc more) (front ++ rest) place) (sym (no_chunk (suc most) front place short)))

  riff_on : 12 ≤ length front → is_riff (front ++ rest) ≡ is_riff front
  riff_on long =
      let count = le-leb 12 (length (front ++ rest)) (omega (arith, length-append front rest)) ∙ sym (le-leb 12 (length front) long) in
      let first : take 4 (front ++ rest) ≡ take 4 front = taken_behind 4 0 (omega arith) in
      let second : take 4 (drop 8 (front ++ rest)) ≡ take 4 (drop 8 front) = taken_behind 4 8 (omega arith) in
      rw (count, first, second) refl

  -- the first data chunk of a front is that of the file
  data_on : (samples : Chunk) → first_named (codes "data") (chunks_of front) ≡ Some samples → first_named (codes "data") (chunks_of (front ++ rest)) ≡ Some samples
  data_on samples first =
      let on = chunks_on (length front) (length (front ++ rest)) 12 (omega (arith, length-append front rest)) in
      ap (first_named (codes "data")) on.1 ∙ found_first (codes "data") (chunks_of front) on.0 samples first

  format_on : (samples : Chunk) → first_named (codes "data") (chunks_of front) ≡ Some samples → format_chunk (chunks_of (front ++ rest)) ≡ format_chunk (chunks_of front)
  format_on samples first =
      let on = chunks_on (length front) (length (front ++ rest)) 12 (omega (arith, length-append front rest)) in
      ap format_chunk on.1 ∙ ap (first_named (codes "fmt ")) (before_first (codes "data") (chunks_of front) on.0 samples first)

  place_on : (samples : Chunk) → first_named (codes "data") (chunks_of front) ≡ Some samples → place_of (front ++ rest) ≡ samples.place + 8
  place_on samples first = ap behind_head (data_on samples first)

  -- the file, by its chunks in the front
  read_on : (samples : Chunk) → is_riff front ≡ true → first_named (codes "data") (chunks_of front) ≡ Some samples
      → read_of (front ++ rest) ≡ chunk_step (front ++ rest) (format_chunk (chunks_of front)) (Some samples)
  read_on samples riff first =
      let there = named_there front 12 (codes "data") (chunks_of front) samples (are_chunks front 12) first in
      ap (λ t. cond t (chunk_step (front ++ rest) (format_chunk (chunks_of (front ++ rest))) (first_named (codes "data") (chunks_of (front ++ rest)))) (Err NotRiff))
      (riff_on (omega (arith, there.0, there.1)) ∙ riff)
      ∙ ap (λ f. chunk_step (front ++ rest) f (first_named (codes "data") (chunks_of (front ++ rest)))) (format_on samples first)
      ∙ ap (chunk_step (front ++ rest) (format_chunk (chunks_of front))) (data_on samples first)

  -- the file, by its format in the front
  format_read : (samples chunk : Chunk) → is_riff front ≡ true → first_named (codes "data") (chunks_of front) ≡ Some samples → format_chunk (chunks_of front) ≡ Some chunk
      → read_of (front ++ rest) ≡ format_step (front ++ rest) (format_in (body_of front chunk) chunk.size) (Some samples)
  format_read samples chunk riff first is =
      let there = named_there front 12 (codes "data") (chunks_of front) samples (are_chunks front 12) first in
      let before = format_before front 12 (chunks_of front) chunk samples (are_chunks front 12) is first in
      read_on samples riff first
      ∙ ap (λ f. chunk_step (front ++ rest) f (Some samples)) is
      ∙ ap (λ b. format_step (front ++ rest) (format_in b chunk.size) (Some samples)) (taken_behind chunk.size (chunk.place + 8) (omega (arith, there.1, before)))

-- whole blocks are no more than their bytes
few_blocks : (wide : Bool) (kind : Kind) (size : ℕ) (chunk : Chunk) → blocks_size wide kind size chunk ≤ min chunk.size (size - (chunk.place + 8))
few_blocks false Mono size chunk = omega arith
few_blocks false Stereo size chunk = omega arith
few_blocks true Mono size chunk = omega arith
few_blocks true Stereo size chunk = omega arith

held_is : (wide : Bool) (kind : Kind) (bytes : List ℕ) (chunk : Chunk)
    → whole_blocks wide kind (body_of bytes chunk) ≡ take (blocks_size wide kind (length bytes) chunk) (drop (chunk.place + 8) bytes)
held_is wide kind bytes chunk =
    let behind = drop (chunk.place + 8) bytes in
    let long : length (body_of bytes chunk) ≡ min chunk.size (length bytes - (chunk.place + 8)) = length-take chunk.size behind ∙ ap (min chunk.size) (length-drop (chunk.place + 8) bytes) in
    let few = few_blocks wide kind (length bytes) chunk in
    ap (λ n. take (n / block_align wide kind * block_align wide kind) (body_of bytes chunk)) long
    ∙ take-take (blocks_size wide kind (length bytes) chunk) chunk.size behind (omega (arith, few))

held_size : (wide : Bool) (kind : Kind) (bytes : List ℕ) (chunk : Chunk)
    → length (take (blocks_size wide kind (length bytes) chunk) (drop (chunk.place + 8) bytes)) ≡ blocks_size wide kind (length bytes) chunk
held_size wide kind bytes chunk =
    let few = few_blocks wide kind (length bytes) chunk in
    length-take-le (blocks_size wide kind (length bytes) chunk) (drop (chunk.place + 8) bytes) (omega (arith, few, length-drop (chunk.place + 8) bytes))

-- what is read of a file with this head
pub head_known : (bytes : List ℕ) (head : Head) → read_of bytes ≡ Ok (wav_at bytes head) → head.at ≡ place_of bytes → length (wav_at bytes head).body ≡ head.size → head.at + head.size ≤ length bytes
    → IsHeadOf bytes head
head_known bytes head read place sized there =
    let known = is_file bytes (wav_at bytes head) read in
    record { read = read; place = place; sized = sized; there = there; rate = known.rate; blocks = record { count = known.blocks.count; some = known.blocks.some; whole = sym sized ∙ known.blocks.whole } }

pub told_not_riff : (front : List ℕ) (size : ℕ) → 12 ≤ length front → is_riff front ≡ false → IsToldBy front size (Err NotRiff)
told_not_riff front size long other bytes begins sized =
    ap read_of begins.whole_is
    ∙ ap (λ t. cond t (chunk_step (front ++ begins.rest) (format_chunk (chunks_of (front ++ begins.rest))) (first_named (codes "data") (chunks_of (front ++ begins.rest)))) (Err NotRiff))
    (riff_on front begins.rest long ∙ other)

module _ (front : List ℕ) (size : ℕ) (samples : Chunk) (riff : is_riff front ≡ true) (first : first_named (codes "data") (chunks_of front) ≡ Some samples) where
  pub told_no_format : format_chunk (chunks_of front) ≡ None → IsToldBy front size (Err NoFormat)
  told_no_format none bytes begins sized =
      ap read_of begins.whole_is ∙ read_on front begins.rest samples riff first ∙ ap (λ f. chunk_step (front ++ begins.rest) f (Some samples)) none

  module _ (chunk : Chunk) (is : format_chunk (chunks_of front) ≡ Some chunk) where
    pub told_bad_format : (fault : WavFault) → format_in (body_of front chunk) chunk.size ≡ Err fault → IsToldBy front size (Err fault)
    told_bad_format fault bad bytes begins sized =
        ap read_of begins.whole_is ∙ format_read front begins.rest samples chunk riff first is ∙ ap (λ f. format_step (front ++ begins.rest) f (Some samples)) bad

    module _ (format : Format) (good : format_in (body_of front chunk) chunk.size ≡ Ok format) where
      blocks_read : (bytes : List ℕ) → IsPrefix front bytes → length bytes ≡ size
          → read_of bytes ≡ with_blocks format (take (blocks_size format.wide format.kind size samples) (drop (samples.place + 8) bytes))
      blocks_read bytes begins sized =
          let read = format_read front begins.rest samples chunk riff first is ∙ ap (λ f. format_step (front ++ begins.rest) f (Some samples)) good
          ∙ ap (with_blocks format) (held_is format.wide format.kind (front ++ begins.rest) samples) in
          let again = subst (λ b. read_of b ≡ with_blocks format (take (blocks_size format.wide format.kind (length b) samples) (drop (samples.place + 8) b))) (sym begins.whole_is) read in
          again ∙ ap (λ n. with_blocks format (take (blocks_size format.wide format.kind n samples) (drop (samples.place + 8) bytes))) sized

      blocks_count : (bytes : List ℕ) → length bytes ≡ size
          → length (take (blocks_size format.wide format.kind size samples) (drop (samples.place + 8) bytes)) ≡ blocks_size format.wide format.kind size samples
      blocks_count bytes sized =
          subst (λ n. length (take (blocks_size format.wide format.kind n samples) (drop (samples.place + 8) bytes)) ≡ blocks_size format.wide format.kind n samples) sized
          (held_size format.wide format.kind bytes samples)

      pub told_empty : blocks_size format.wide format.kind size samples ≡ 0 → IsToldBy front size (Err Empty)
      told_empty none bytes begins sized =
          let blocks = take (blocks_size format.wide format.kind size samples) (drop (samples.place + 8) bytes) in
          let no : length blocks ≡ 0 = blocks_count bytes sized ∙ none in
          blocks_read bytes begins sized ∙ ap (λ n. cond (nat_eq n 0) (Err Empty) (Ok (record { kind = format.kind; rate = format.rate; wide = format.wide; body = blocks }))) no

      pub told_head : blocks_size format.wide format.kind size samples ≢ 0 → samples.place + 8 ≤ size → IsToldBy front size (Ok (record {
        kind = format.kind;
        rate = format.rate;
        wide = format.wide;
        at = samples.place + 8;
        size = blocks_size format.wide format.kind size samples;
      }))
      told_head some there bytes begins sized =
          let blocks = take (blocks_size format.wide format.kind size samples) (drop (samples.place + 8) bytes) in
          let count = blocks_count bytes sized in
          let other : nat_eq (length blocks) 0 ≡ false = grind (arith, nat_tests, count, some) in
          let few = few_blocks format.wide format.kind size samples in
          head_known bytes _ (blocks_read bytes begins sized
          ∙ ap (λ t. cond t (Err Empty) (Ok (record { kind = format.kind; rate = format.rate; wide = format.wide; body = blocks }))) other)
          (sym (ap place_of begins.whole_is ∙ place_on front begins.rest samples first)) count (omega (arith, few, there, sized))
