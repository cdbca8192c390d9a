-- A header of ours and then its blocks are read as what they were written for.
use Rattle.std.proofs.Common.{◌≡◌, ◌≤◌, ◌<◌, ℕ, ◌*◌, ◌^◌, ◌∷◌, [], ◌++◌, List, length, take, drop, cond, Bool, true, false, refl, sym, ap, ◌∙◌, arith}
use Rattle.std.specs.Prelude.{Some, Ok, Err, codes, nat_eq, ◌&&◌}
use Rattle.std.proofs.lemmas.Bool.{lt-ltb, le-leb}
use Rattle.std.proofs.lemmas.Bool.Decides.{nat_tests}
use Rattle.std.proofs.lemmas.List.{take_all}
use Rattle.liq_base.specs.Kinds.{channels_of}
use Rattle.liq_base.specs.declared.limits.TheConstants.{MAX_RATE}
use Rattle.byteorder.specs.Numbers.{little_from-bytes}
use Rattle.liq_base.specs.declared.memory.Kind.{Kind}
use Rattle.liq_base.specs.declared.memory.Kind.TheVariants.{Mono, Stereo}
use Rattle.wav_io.specs.Header.{block_align, header_at}
use Rattle.wav_io.proofs.Headers.{bits_of, body_behind, fields_of, header_is, rate_behind}
use Rattle.wav_io.specs.Chunks.{chunk_at, chunks_of, chunks_behind, first_named, place_behind}
use Rattle.wav_io.specs.Reading.{read_of, is_riff, format_chunk, body_of, format_in, checked_format, whole_blocks, with_blocks, chunk_step, format_step}
use Rattle.wav_io.specs.declared.chunks.Chunk.{Chunk}
use Rattle.wav_io.specs.declared.fault.WavFault.TheVariants.{NotRiff, BadFormat, Empty}
use Rattle.wav_io.proofs.Steps.{next_chunk}

take_front : (xs ys : List ℕ) → take (length xs) (xs ++ ys) ≡ xs
take_front [] ys = refl
take_front (x ∷ xs) ys = ap (λ l. x ∷ l) (take_front xs ys)

module _ (whole channels rate block bits size : ℕ) (rest : List ℕ) where
  own_riff : is_riff (fields_of whole channels rate block bits size ++ rest) ≡ true
  unfolding fields_of
  own_riff = ap (λ b. b && true && true) (le-leb 12 _ (omega arith))

  -- the two chunks that are looked at
  own_chunks : chunks_of (fields_of whole channels rate block bits size ++ rest)
      ≡ chunk_at (fields_of whole channels rate block bits size ++ rest) 12 ∷ chunk_at (fields_of whole channels rate block bits size ++ rest) 36
      ∷ chunks_behind (fields_of whole channels rate block bits size ++ rest) (place_behind (chunk_at (fields_of whole channels rate block bits size ++ rest) 36))
  unfolding fields_of
  own_chunks =
      next_chunk (fields_of whole channels rate block bits size ++ rest) 12 (omega arith)
      ∙ ap (λ l. chunk_at (fields_of whole channels rate block bits size ++ rest) 12 ∷ l) (next_chunk (fields_of whole channels rate block bits size ++ rest) 36 (omega arith))

  own_format_chunk : (more : List Chunk)
      → format_chunk (chunk_at (fields_of whole channels rate block bits size ++ rest) 12 ∷ chunk_at (fields_of whole channels rate block bits size ++ rest) 36 ∷ more)
      ≡ Some (chunk_at (fields_of whole channels rate block bits size ++ rest) 12)
  unfolding fields_of
  own_format_chunk more = refl

  own_data_chunk : (more : List Chunk)
      → first_named (codes "data") (chunk_at (fields_of whole channels rate block bits size ++ rest) 12 ∷ chunk_at (fields_of whole channels rate block bits size ++ rest) 36 ∷ more)
      ≡ Some (chunk_at (fields_of whole channels rate block bits size ++ rest) 36)
  unfolding fields_of
  own_data_chunk more = refl

  size_behind : size < 2 ^ 32 → (chunk_at (fields_of whole channels rate block bits size ++ rest) 36).size ≡ size
  unfolding fields_of
  size_behind small = little_from-bytes 4 0 size rest ∙ (omega arith)

own_format : (wide : Bool) (kind : Kind) (whole rate size : ℕ) (rest : List ℕ) → 0 < rate → rate ≤ MAX_RATE
    → format_in (body_of (fields_of whole (channels_of kind) rate (block_align wide kind) (bits_of wide) size ++ rest) (chunk_at (fields_of whole (channels_of kind) rate (block_align wide kind) (bits_of wide) size ++ rest) 12))
    (chunk_at (fields_of whole (channels_of kind) rate (block_align wide kind) (bits_of wide) size ++ rest) 12).size ≡ Ok (record { kind = kind; rate = rate; wide = wide })
unfolding fields_of
own_format false Mono whole rate size rest some small =
    ap (λ r. checked_format false (Some Mono) r 2) (rate_behind whole 1 rate 2 16 size rest small)
    ∙ ap (λ b. cond (b && true) (Ok (record { kind = Mono; rate = rate; wide = false })) (Err BadFormat)) (lt-ltb 0 rate some)
own_format false Stereo whole rate size rest some small =
    ap (λ r. checked_format false (Some Stereo) r 4) (rate_behind whole 2 rate 4 16 size rest small)
    ∙ ap (λ b. cond (b && true) (Ok (record { kind = Stereo; rate = rate; wide = false })) (Err BadFormat)) (lt-ltb 0 rate some)
own_format true Mono whole rate size rest some small =
    ap (λ r. checked_format true (Some Mono) r 3) (rate_behind whole 1 rate 3 24 size rest small)
    ∙ ap (λ b. cond (b && true) (Ok (record { kind = Mono; rate = rate; wide = true })) (Err BadFormat)) (lt-ltb 0 rate some)
own_format true Stereo whole rate size rest some small =
    ap (λ r. checked_format true (Some Stereo) r 6) (rate_behind whole 2 rate 6 24 size rest small)
    ∙ ap (λ b. cond (b && true) (Ok (record { kind = Stereo; rate = rate; wide = true })) (Err BadFormat)) (lt-ltb 0 rate some)

-- a body of whole blocks is all blocks
all_blocks : (wide : Bool) (kind : Kind) (samples : ℕ) (body : List ℕ) → length body ≡ samples * block_align wide kind → whole_blocks wide kind body ≡ body
all_blocks false Mono samples body whole = take_all _ body (omega arith)
all_blocks false Stereo samples body whole = take_all _ body (omega arith)
all_blocks true Mono samples body whole = take_all _ body (omega arith)
all_blocks true Stereo samples body whole = take_all _ body (omega arith)

some_bytes : (wide : Bool) (kind : Kind) (samples size : ℕ) → 0 < samples → size ≡ samples * block_align wide kind → nat_eq size 0 ≡ false
some_bytes false Mono samples size some is = grind (arith, nat_tests)
some_bytes false Stereo samples size some is = grind (arith, nat_tests)
some_bytes true Mono samples size some is = grind (arith, nat_tests)
some_bytes true Stereo samples size some is = grind (arith, nat_tests)

-- what lies behind the data makes no difference
pub own_is_read : (wide : Bool) (kind : Kind) (rate samples : ℕ) (header body more : List ℕ) → 0 < rate → rate ≤ MAX_RATE → 0 < samples
    → header_at wide kind rate samples ≡ Some header → length body ≡ samples * block_align wide kind
    → read_of (header ++ (body ++ more)) ≡ Ok (record { kind = kind; rate = rate; wide = wide; body = body })
own_is_read wide kind rate samples header body more some small many is as_many =
    let made = header_is wide kind rate samples header is in
    let whole = made.whole in
    let channels = channels_of kind in
    let block = block_align wide kind in
    let bits = bits_of wide in
    let size = samples * block_align wide kind in
    let rest = body ++ more in
    let all = fields_of whole channels rate block bits size ++ rest in
    let chunks = own_chunks whole channels rate block bits size rest in
    let found : format_chunk (chunks_of all) ≡ Some (chunk_at all 12) =
    ap format_chunk chunks ∙ own_format_chunk whole channels rate block bits size rest (chunks_behind all (place_behind (chunk_at all 36))) in
    let held : first_named (codes "data") (chunks_of all) ≡ Some (chunk_at all 36) =
    ap (first_named (codes "data")) chunks ∙ own_data_chunk whole channels rate block bits size rest (chunks_behind all (place_behind (chunk_at all 36))) in
    let long : (chunk_at all 36).size ≡ length body = size_behind whole channels rate block bits size rest made.fits ∙ sym as_many in
    let blocks : body_of all (chunk_at all 36) ≡ body =
    ap (λ n. take n (drop 44 all)) long ∙ ap (take (length body)) (body_behind whole channels rate block bits size rest) ∙ take_front body more in
    ap (λ h. read_of (h ++ rest)) made.is
    ∙ ap (λ t. cond t (chunk_step all (format_chunk (chunks_of all)) (first_named (codes "data") (chunks_of all))) (Err NotRiff)) (own_riff whole channels rate block bits size rest)
    ∙ ap (λ f. chunk_step all f (first_named (codes "data") (chunks_of all))) found
    ∙ ap (λ d. chunk_step all (Some (chunk_at all 12)) d) held
    ∙ ap (λ f. format_step all f (Some (chunk_at all 36))) (own_format wide kind whole rate size rest some small)
    ∙ ap (λ b. with_blocks (record { kind = kind; rate = rate; wide = wide }) (whole_blocks wide kind b)) blocks
    ∙ ap (λ b. with_blocks (record { kind = kind; rate = rate; wide = wide }) b) (all_blocks wide kind samples body as_many)
    ∙ ap (λ t. cond t (Err Empty) (Ok (record { kind = kind; rate = rate; wide = wide; body = body }))) (some_bytes wide kind samples (length body) many as_many)
