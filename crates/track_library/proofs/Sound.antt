-- Whole blocks of bytes are a sound.
use Rattle.std.proofs.Common.{◌≡◌, ◌∙◌, ◌≤◌, ℕ, Bool, true, false, suc, ◌*◌, ◌/◌, ◌∷◌, [], List, length, take, ap, refl, arith}
use Rattle.liq_base.specs.declared.memory.Kind.{Kind}
use Rattle.liq_base.specs.declared.memory.Kind.TheVariants.{Mono, Stereo}
use Rattle.frame_core.specs.Bytes.{sample_in, samples_from}
use Rattle.frame_core.specs.Sounds.{IsSound}
use Rattle.sample_bytes.specs.Wide.{wide_samples_in}
use Rattle.wav_io.specs.Reading.{AreBlocks}
use Rattle.track_library.specs.Walk.{samples_at}

-- two bytes a sample
pub samples_long : (bytes : List ℕ) → length (samples_from bytes) ≡ length bytes / 2
samples_long [] = refl
samples_long (low ∷ []) = refl
samples_long (low ∷ high ∷ bytes) = let rest = samples_long bytes in omega arith

-- an odd byte at the end is left out
pub samples_front : (bytes : List ℕ) → samples_from (take (2 * (length bytes / 2)) bytes) ≡ samples_from bytes
samples_front [] = refl
samples_front (low ∷ []) = refl
samples_front (low ∷ high ∷ bytes) =
    let e : 2 * (length (low ∷ high ∷ bytes) / 2) ≡ suc (suc (2 * (length bytes / 2))) = omega arith in
    ap (λ n. samples_from (take n (low ∷ high ∷ bytes))) e ∙ ap (λ l. sample_in low high ∷ l) (samples_front bytes)

-- three bytes a wide sample
pub wide_long : (bytes : List ℕ) → length (wide_samples_in bytes) ≡ length bytes / 3
wide_long [] = refl
wide_long (lowest ∷ []) = refl
wide_long (lowest ∷ low ∷ []) = refl
wide_long (lowest ∷ low ∷ high ∷ bytes) = let rest = wide_long bytes in omega arith

-- one or two bytes at the end are left out
pub wide_front : (bytes : List ℕ) → wide_samples_in (take (3 * (length bytes / 3)) bytes) ≡ wide_samples_in bytes
wide_front [] = refl
wide_front (lowest ∷ []) = refl
wide_front (lowest ∷ low ∷ []) = refl
wide_front (lowest ∷ low ∷ high ∷ bytes) =
    let e : 3 * (length (lowest ∷ low ∷ high ∷ bytes) / 3) ≡ suc (suc (suc (3 * (length bytes / 3)))) = omega arith in
    ap (λ n. wide_samples_in (take n (lowest ∷ low ∷ high ∷ bytes))) e ∙ ap (λ l. sample_in low high ∷ l) (wide_front bytes)

-- a file has two bytes and more for each sample
pub two_each : (wide : Bool) (bytes : List ℕ) → 2 * length (samples_at wide bytes) ≤ length bytes
two_each false bytes = let long = samples_long bytes in omega arith
two_each true bytes = let long = wide_long bytes in omega arith

pub blocks_sound : (wide : Bool) (kind : Kind) (bytes : List ℕ) → AreBlocks wide kind bytes → IsSound (record { kind = kind; samples = samples_at wide bytes })
blocks_sound false Mono bytes blocks =
    let long = samples_long bytes in
    let count = blocks.count in
    let half : length (samples_from bytes) ≡ count = omega (arith, blocks.whole) in
    record { whole_blocks = omega arith; some = omega (arith, blocks.some) }
blocks_sound false Stereo bytes blocks =
    let long = samples_long bytes in
    let count = blocks.count in
    let half : length (samples_from bytes) ≡ 2 * count = omega (arith, blocks.whole) in
    record { whole_blocks = omega arith; some = omega (arith, blocks.some) }
blocks_sound true Mono bytes blocks =
    let long = wide_long bytes in
    let count = blocks.count in
    let half : length (wide_samples_in bytes) ≡ count = omega (arith, blocks.whole) in
    record { whole_blocks = omega arith; some = omega (arith, blocks.some) }
blocks_sound true Stereo bytes blocks =
    let long = wide_long bytes in
    let count = blocks.count in
    let half : length (wide_samples_in bytes) ≡ 2 * count = omega (arith, blocks.whole) in
    record { whole_blocks = omega arith; some = omega (arith, blocks.some) }
