-- Samples that stand as bytes.
use Rattle.std.proofs.Common.{◌≡◌, ◌<◌, ◌≤◌, ◌+◌, ◌*◌, ◌/◌, ◌∙◌, ℕ, zero, suc, List, [], ◌∷◌, length, take, drop, get_or, arith, ap, refl, sym, length-take, length-drop, subst}
use Rattle.liq_base.specs.Kinds.{channels_of}
use Rattle.liq_base.specs.declared.memory.Kind.{Kind}
use Rattle.liq_base.specs.declared.memory.Kind.TheVariants.{Mono, Stereo}
use Rattle.frame_core.specs.Bytes.{sample_in, samples_from}
use Rattle.frame_core.specs.Sounds.{length_of, sample_at}

-- each sample has two bytes
pub half_as_many : (bytes : List ℕ) → length (samples_from bytes) ≡ length bytes / 2
half_as_many [] = refl
half_as_many (b ∷ []) = refl
half_as_many (low ∷ high ∷ bytes) = omega (arith, half_as_many bytes)

pub bytes_there : (bytes : List ℕ) (at : ℕ) → at < length (samples_from bytes) → 2 * at + 1 < length bytes
bytes_there bytes at lt = omega (arith, lt, half_as_many bytes)

pub sample_there : (bytes : List ℕ) (at : ℕ) → 2 * at + 1 < length bytes
    → sample_at (samples_from bytes) at ≡ sample_in (get_or bytes (2 * at) 0) (get_or bytes (2 * at + 1) 0)
sample_there [] at lt = absurd (omega (arith, lt))
sample_there (b ∷ []) at lt = absurd (omega (arith, lt))
sample_there (low ∷ high ∷ bytes) zero lt = refl
sample_there (low ∷ high ∷ bytes) (suc at) lt =
    let all = low ∷ high ∷ bytes in
    let one : 2 * suc at ≡ suc (suc (2 * at)) = omega arith in
    let other : 2 * suc at + 1 ≡ suc (suc (2 * at + 1)) = omega arith in
    sample_there bytes at (omega (arith, lt))
    ∙ sym (ap (λ n. sample_in (get_or all n 0) (get_or bytes (2 * at + 1) 0)) one)
    ∙ sym (ap (λ n. sample_in (get_or all (2 * suc at) 0) (get_or all n 0)) other)

-- a part of a file
pub half_of_part : (bytes : List ℕ) (from size : ℕ) → from + size ≤ length bytes → length (samples_from (take size (drop from bytes))) ≡ size / 2
half_of_part bytes from size inside =
    omega (arith, half_as_many (take size (drop from bytes)), length-take size (drop from bytes), length-drop from bytes, inside)

-- the bytes of so many blocks
pub in_mono : (own : Kind) (n m : ℕ) → own ≡ Mono → 2 * channels_of own * n ≤ m → 2 * n ≤ m
in_mono own n m is there = let by : 2 * channels_of Mono * n ≤ m = subst (λ k. 2 * channels_of k * n ≤ m) is there in by

pub in_stereo : (own : Kind) (n m : ℕ) → own ≡ Stereo → 2 * channels_of own * n ≤ m → 4 * n ≤ m
in_stereo own n m is there = let by : 2 * channels_of Stereo * n ≤ m = subst (λ k. 2 * channels_of k * n ≤ m) is there in by

pub blocks_there : (own : Kind) (bytes : List ℕ) (n : ℕ) → n ≤ length_of (record { kind = own; samples = samples_from bytes }) → 2 * channels_of own * n ≤ length bytes
blocks_there Mono bytes n le = let by : n ≤ length (samples_from bytes) / 1 = le in omega (arith, by, half_as_many bytes)
blocks_there Stereo bytes n le = let by : n ≤ length (samples_from bytes) / 2 = le in omega (arith, by, half_as_many bytes)
