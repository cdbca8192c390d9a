-- Samples that stand in bytes, one by one.
use Rattle.std.proofs.Common.{◌≡◌, ◌<◌, ◌≤◌, ◌+◌, ◌*◌, ◌/◌, ◌∙◌, ℕ, zero, suc, pos, Bool, true, false, List, [], ◌∷◌, length, get_or, arith, ap, refl, sym}
use Rattle.resample.specs.Bytes.{sample_in, samples_at, samples_from, wide_samples_in}

-- each sample has two bytes, or three
pub narrow_long : (bytes : List ℕ) → length (samples_from bytes) ≡ length bytes / 2
narrow_long [] = refl
narrow_long (low ∷ []) = refl
narrow_long (low ∷ high ∷ bytes) = omega (arith, narrow_long bytes)

pub wide_long : (bytes : List ℕ) → length (wide_samples_in bytes) ≡ length bytes / 3
wide_long [] = refl
wide_long (lowest ∷ []) = refl
wide_long (lowest ∷ low ∷ []) = refl
wide_long (lowest ∷ low ∷ high ∷ bytes) = omega (arith, wide_long bytes)

pub narrow_there : (bytes : List ℕ) (at : ℕ) → at < length (samples_from bytes) → 2 * at + 1 < length bytes
narrow_there bytes at less = omega (arith, less, narrow_long bytes)

pub wide_there : (bytes : List ℕ) (at : ℕ) → at < length (wide_samples_in bytes) → 3 * at + 2 < length bytes
wide_there bytes at less = omega (arith, less, wide_long bytes)

pub narrow_is : (bytes : List ℕ) (at : ℕ) → 2 * at + 1 < length bytes
    → get_or (samples_from bytes) at (pos 0) ≡ sample_in (get_or bytes (2 * at) 0) (get_or bytes (2 * at + 1) 0)
narrow_is [] at less = absurd (omega (arith, less))
narrow_is (low ∷ []) at less = absurd (omega (arith, less))
narrow_is (low ∷ high ∷ bytes) zero less = refl
narrow_is (low ∷ high ∷ bytes) (suc at) less =
    let all = low ∷ high ∷ bytes in
    let one : 2 * suc at ≡ suc (suc (2 * at)) = omega arith in
    let other : 2 * suc at + 1 ≡ suc (suc (2 * at + 1)) = omega arith in
    narrow_is bytes at (omega (arith, less))
    ∙ sym (ap (λ n. sample_in (get_or all n 0) (get_or bytes (2 * at + 1) 0)) one)
    ∙ sym (ap (λ n. sample_in (get_or all (2 * suc at) 0) (get_or all n 0)) other)

pub wide_is : (bytes : List ℕ) (at : ℕ) → 3 * at + 2 < length bytes
    → get_or (wide_samples_in bytes) at (pos 0) ≡ sample_in (get_or bytes (3 * at + 1) 0) (get_or bytes (3 * at + 2) 0)
wide_is [] at less = absurd (omega (arith, less))
wide_is (lowest ∷ []) at less = absurd (omega (arith, less))
wide_is (lowest ∷ low ∷ []) at less = absurd (omega (arith, less))
wide_is (lowest ∷ low ∷ high ∷ bytes) zero less = refl
wide_is (lowest ∷ low ∷ high ∷ bytes) (suc at) less =
    let all = lowest ∷ low ∷ high ∷ bytes in
    let one : 3 * suc at + 1 ≡ suc (suc (suc (3 * at + 1))) = omega arith in
    let other : 3 * suc at + 2 ≡ suc (suc (suc (3 * at + 2))) = omega arith in
    wide_is bytes at (omega (arith, less))
    ∙ sym (ap (λ n. sample_in (get_or all n 0) (get_or bytes (3 * at + 2) 0)) one)
    ∙ sym (ap (λ n. sample_in (get_or all (3 * suc at + 1) 0) (get_or all n 0)) other)

-- how many samples there are, by the width that is known
pub long_wide : (wide : Bool) (bytes : List ℕ) → wide ≡ true → length bytes / 3 ≡ length (samples_at wide bytes)
long_wide true bytes is = sym (wide_long bytes)
long_wide false bytes is = absurd (cc)

pub long_narrow : (wide : Bool) (bytes : List ℕ) → wide ≡ false → length bytes / 2 ≡ length (samples_at wide bytes)
long_narrow true bytes is = absurd (cc)
long_narrow false bytes is = sym (narrow_long bytes)

pub there_wide : (wide : Bool) (bytes : List ℕ) (at : ℕ) → wide ≡ true → at < length (samples_at wide bytes) → 3 * at + 2 < length bytes
there_wide true bytes at is less = wide_there bytes at less
there_wide false bytes at is less = absurd (cc)

pub there_narrow : (wide : Bool) (bytes : List ℕ) (at : ℕ) → wide ≡ false → at < length (samples_at wide bytes) → 2 * at + 1 < length bytes
there_narrow true bytes at is less = absurd (cc)
there_narrow false bytes at is less = narrow_there bytes at less

pub is_wide : (wide : Bool) (bytes : List ℕ) (at : ℕ) → wide ≡ true → at < length (samples_at wide bytes)
    → get_or (samples_at wide bytes) at (pos 0) ≡ sample_in (get_or bytes (3 * at + 1) 0) (get_or bytes (3 * at + 2) 0)
is_wide true bytes at is less = wide_is bytes at (wide_there bytes at less)
is_wide false bytes at is less = absurd (cc)
