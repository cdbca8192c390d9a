-- What is drawn is read back.
use Rattle.std.proofs.Common.{◌≡◌, ◌∙◌, ◌<◌, ◌≤◌, ◌+◌, ◌*◌, ◌/◌, ◌%◌, ◌++◌, ℕ, zero, suc, ℤ, pos, ◌-ℤ◌, Bool, true, false, Some, None, Ok, List, [], ◌∷◌, if◌then◌else◌, length, map, ap, append-nil, append_assoc, arith, eqb, refl, sym, subst, w16, FitsSigned, to_z, of_z}
use Rattle.std.specs.Prelude.{slice_get, IsSomeAnd}
use Rattle.std.specs.List.{range_with_len}
use Rattle.std.proofs.lemmas.Bool.{lt-ltb, eqb-true, eqb-false}
use Rattle.std.proofs.lemmas.Int.{ints, to_z-of_z}
use Rattle.std.proofs.lemmas.List.{length-append}
use Rattle.std.proofs.lemmas.List.FromFn.{map-range_with_len_more}
use Rattle.liq_base.specs.declared.limits.TheConstants.{MAX_RATE}
use Rattle.liq_base.specs.declared.memory.Kind.{Kind}
use Rattle.liq_base.specs.declared.memory.Kind.TheVariants.{Mono}
use Rattle.frame_core.specs.Bytes.{sample_bytes, sample_in, samples_from}
use Rattle.seed_words.specs.Words.{word}
use Rattle.wav_io.specs.Header.{block_align, header_at, header_bytes, header_of}
use Rattle.wav_io.specs.Reading.{read_of}
use Rattle.workload_gen.specs.Files.{File, begin_of, drawn_bytes, length_at, sample_of, track, tracks, workload}
use Rattle.workload_gen.specs.Read.{IsTrack}

-- a sample that is drawn fits in two bytes
near_fits : (a : ℕ) → a ≤ 20000 → FitsSigned w16 (pos a -ℤ pos 10000)
near_fits a few = omega (arith, ints, few)

drawn_fits : (w : ℕ) → FitsSigned w16 (sample_of w)
drawn_fits w = near_fits (w % 20001) (omega arith)

two_bytes_back : (x : ℤ) → FitsSigned w16 x → samples_from (sample_bytes x) ≡ x ∷ []
two_bytes_back x fit =
    let b = of_z w16 x in
    let small : b < 65536 = omega (arith, ints, fit) in
    let whole : b % 256 + 256 * (b / 256 % 256) ≡ b = omega (arith, small) in
    ap (λ n. to_z w16 n ∷ []) whole ∙ ap (λ y. y ∷ []) (to_z-of_z w16 x fit)

samples_both : (n : ℕ) (xs ys : List ℕ) → length xs ≡ 2 * n → samples_from (xs ++ ys) ≡ samples_from xs ++ samples_from ys
samples_both n [] ys even = refl
samples_both n (x ∷ []) ys even = absurd (omega (arith, even))
samples_both zero (x ∷ y ∷ xs) ys even = absurd (omega (arith, even))
samples_both (suc n) (x ∷ y ∷ xs) ys even = ap (λ l. sample_in x y ∷ l) (samples_both n xs ys (omega (arith, even)))

length-drawn : (seed from count : ℕ) → length (drawn_bytes seed from count) ≡ 2 * count
length-drawn seed from zero = refl
length-drawn seed from (suc count) =
    let long = length-append (drawn_bytes seed from count) (sample_bytes (sample_of (word seed (from + count)))) in
    let before = length-drawn seed from count in
    omega (arith, long, before)

-- the samples that are drawn stand in their bytes
drawn_back : (seed from count : ℕ) → samples_from (drawn_bytes seed from count) ≡ map (λ k. sample_of (word seed (from + k))) (range_with_len 0 count)
drawn_back seed from zero = refl
drawn_back seed from (suc count) =
    let next = sample_of (word seed (from + count)) in
    let one : suc count ≡ count + 1 = omega arith in
    samples_both count (drawn_bytes seed from count) (sample_bytes next) (length-drawn seed from count)
    ∙ ap (λ l. l ++ samples_from (sample_bytes next)) (drawn_back seed from count)
    ∙ ap (λ l. map (λ k. sample_of (word seed (from + k))) (range_with_len 0 count) ++ l) (two_bytes_back next (drawn_fits _))
    ∙ sym (map-range_with_len_more (λ k. sample_of (word seed (from + k))) 0 count count (omega arith))
    ∙ ap (λ m. map (λ k. sample_of (word seed (from + k))) (range_with_len 0 m)) (sym one)

-- the law of `wav_io` that is cited
abbrev pub OwnAreRead : Type 0
OwnAreRead = (wide : Bool) (kind : Kind) (rate samples : ℕ) (header data_bytes pad : List ℕ) → 0 < rate → rate ≤ MAX_RATE → 0 < samples
    → header_at wide kind rate samples ≡ Some header → length data_bytes ≡ samples * block_align wide kind
    → length pad ≡ length data_bytes % 2
    → read_of (header ++ (data_bytes ++ pad)) ≡ Ok (record { kind = kind; rate = rate; wide = wide; body = data_bytes })

header_fits : (samples : ℕ) → samples ≤ 4000 → header_of Mono 8000 samples ≡ Some (header_bytes Mono 8000 samples)
header_fits samples few = ap (λ (b : Bool). if b then Some (header_bytes Mono 8000 samples) else None) (lt-ltb _ _ (omega (arith, few)))

-- an audio file is read as its samples
pub track_read : OwnAreRead → (seed i : ℕ) → IsTrack seed i (track seed i)
track_read own seed i =
    let begin = begin_of seed i in
    let count = length_at seed begin in
    let head = header_bytes Mono 8000 count in
    let body = drawn_bytes seed (begin + 1) count in
    let few : count ≤ 4000 = omega arith in
    let some : 0 < count = omega arith in
    let long : length body ≡ count * 2 = let twice = length-drawn seed (begin + 1) count in omega (arith, twice) in
    let even : 0 ≡ length body % 2 = omega (arith, long) in
    let read = own false Mono 8000 count head body [] (omega arith) (omega arith) some (header_fits count few) long even in
    record {
      name = refl;
      bytes = record {
        body = body;
        read = ap (λ b. read_of (head ++ b)) (sym (append-nil body)) ∙ read;
        holds = drawn_back seed (begin + 1) count;
      };
    }

-- ---- the first files are the audio files
length-tracks : (seed n : ℕ) → length (tracks seed n) ≡ n
length-tracks seed zero = refl
length-tracks seed (suc n) = let long = length-append (tracks seed n) (track seed n ∷ []) in let before = length-tracks seed n in omega (arith, long, before)

seam : (xs rest : List File) (x : File) → slice_get (xs ++ x ∷ rest) (length xs) ≡ Some x
seam [] rest x = refl
seam (y ∷ xs) rest x = seam xs rest x

there : (seed n i : ℕ) (rest : List File) → i < n → slice_get (tracks seed n ++ rest) i ≡ Some (track seed i)
there seed zero i rest lt = absurd (omega (arith, lt))
there seed (suc n) i rest lt = ap (λ l. slice_get l i) (append_assoc (tracks seed n) (track seed n ∷ []) rest) ∙ by_case (λ lower. there seed n i (track seed n ∷ rest) lower) (eqb i n) refl where
  by_case : (i < n → slice_get (tracks seed n ++ track seed n ∷ rest) i ≡ Some (track seed i)) → (b : Bool) → eqb i n ≡ b → slice_get (tracks seed n ++ track seed n ∷ rest) i ≡ Some (track seed i)
  by_case before true e =
      let same : i ≡ n = eqb-true i n e in
      ap (slice_get (tracks seed n ++ track seed n ∷ rest)) (same ∙ sym (length-tracks seed n)) ∙ seam (tracks seed n) rest (track seed n) ∙ ap (λ k. Some (track seed k)) (sym same)
  by_case before false e = before (omega (arith, lt, eqb-false i n e))

pub made_read : OwnAreRead → (seed n i : ℕ) → i ≤ n → IsSomeAnd (slice_get (workload seed n) i) (IsTrack seed i)
made_read own seed n i le = subst (λ o. IsSomeAnd o (IsTrack seed i)) (sym (there seed (suc n) i _ (omega (arith, le)))) (track_read own seed i)
