-- Lists of zeros, and what the kernels make of them.
use Rattle.std.proofs.Common.{inl, inr, ◌≡◌, ◌<◌, ◌+◌, ◌*◌, ◌-◌, ◌∙◌, ℕ, zero, suc, ℤ, pos, negsuc, ◌+ℤ◌, neg_ℤ, List, [], ◌∷◌, length, map, get_or, arith, ap, sym, refl, w16, w32, Fits, FitsSigned, to_z, of_z}
use Rattle.std.specs.Prelude.{int_div, replicate}
use Rattle.std.specs.Int.{Width}
use Rattle.std.specs.Int.Bits.{bit_or}
use Rattle.std.specs.Simd.Lanes.{zip2}
use Rattle.std.proofs.lemmas.Bool.{cases_lt}
use Rattle.std.proofs.lemmas.Int.{to_z-of_z, of_z-to_z}
use Rattle.std.proofs.lemmas.Nat.{or_lt, le_or_l, le_or_r}
use Rattle.std.proofs.lemmas.List.{ext_get_or, length-replicate, get_or-replicate}
use Rattle.std.proofs.Math.Nat.{zero-div}
use Rattle.sample_kernels.specs.Samples.{clamped, mean_of, scaled}
use Rattle.sample_kernels.specs.Mixing.{faded, mixed}
use mir.Val.{bits}
use mir.ValLaws.{of_z_fits}

-- where the bits of a number and of those before it are 0, it is 0, and so are those
both_none : (w : Width) (found : ℕ) (number : ℤ) → Fits w found → FitsSigned w number → to_z w 0 ≡ pos 0 → to_z w (bit_or found (of_z w number)) ≡ pos 0 →
    (to_z w found ≡ pos 0) × (number ≡ pos 0)
both_none w found number small fits zero_is is =
    let bits_of = (of_z_fits w number fits).fits in
    let none : bit_or found (of_z w number) ≡ 0 = sym (of_z-to_z w (bit_or found (of_z w number)) (or_lt (bits w) found (of_z w number) small.fits bits_of)) ∙ ap (of_z w) is in
    let before = le_or_l found (of_z w number) in
    let here = le_or_r found (of_z w number) in
    let none_before : found ≡ 0 = omega (arith, none, before) in
    let none_here : of_z w number ≡ 0 = omega (arith, none, here) in
    (ap (to_z w) none_before ∙ zero_is, sym (to_z-of_z w number fits) ∙ ap (to_z w) none_here ∙ zero_is)

-- a list whose numbers are all 0
pub all_none : (xs : List ℤ) → ((k : ℕ) → k < length xs → get_or xs k (pos 0) ≡ pos 0) → xs ≡ replicate (length xs) (pos 0)
all_none xs none =
    ext_get_or (pos 0) xs (replicate (length xs) (pos 0)) (sym (length-replicate (length xs) (pos 0)))
    (λ k less. none k less ∙ sym (get_or-replicate (length xs) k (pos 0) (pos 0) less))

none_more : (xs : List ℤ) (n : ℕ) → ((k : ℕ) → k < n → get_or xs k (pos 0) ≡ pos 0) → get_or xs n (pos 0) ≡ pos 0 → (k : ℕ) → k < n + 1 → get_or xs k (pos 0) ≡ pos 0
none_more xs n before is k below =
    elim (cases_lt k n) [
      | inl less ↦ before k less
      | inr most ↦ (let same : k ≡ n = omega (arith, below, most) in ap (λ k. get_or xs k (pos 0)) same ∙ is)
    ]

-- one number more
pub silent_more : (samples : List ℤ) (n found : ℕ) (number : ℤ) → Fits w16 found → FitsSigned w16 number → number ≡ get_or samples n (pos 0) →
    (to_z w16 found ≡ pos 0 → (k : ℕ) → k < n → get_or samples k (pos 0) ≡ pos 0) → to_z w16 (bit_or found (of_z w16 number)) ≡ pos 0 →
    (k : ℕ) → k < n + 1 → get_or samples k (pos 0) ≡ pos 0
silent_more samples n found number small fits is before none =
    let both = both_none w16 found number small fits refl none in
    none_more samples n (before both.0) (sym is ∙ both.1)

pub zeros_more : (sums : List ℤ) (n found : ℕ) (number : ℤ) → Fits w32 found → FitsSigned w32 number → number ≡ get_or sums n (pos 0) →
    (to_z w32 found ≡ pos 0 → (k : ℕ) → k < n → get_or sums k (pos 0) ≡ pos 0) → to_z w32 (bit_or found (of_z w32 number)) ≡ pos 0 →
    (k : ℕ) → k < n + 1 → get_or sums k (pos 0) ≡ pos 0
zeros_more sums n found number small fits is before none =
    let both = both_none w32 found number small fits refl none in
    none_more sums n (before both.0) (sym is ∙ both.1)

-- ---- a factor
scaled_zero : (millionths : ℤ) → scaled millionths (pos 0) ≡ pos 0
scaled_zero (pos n) = let none : 0 * n ≡ 0 = omega arith in ap (λ n. clamped (int_div (pos n) (pos 1000000))) none
scaled_zero (negsuc n) = let none : 0 * suc n ≡ 0 = omega arith in ap (λ n. clamped (int_div (neg_ℤ (pos n)) (pos 1000000))) none

map_none : (f : ℤ → ℤ) (n : ℕ) → f (pos 0) ≡ pos 0 → map f (replicate n (pos 0)) ≡ replicate n (pos 0)
map_none f zero is = refl
map_none f (suc n) is = ap (λ x. x ∷ map f (replicate n (pos 0))) is ∙ ap (λ l. pos 0 ∷ l) (map_none f n is)

pub scaled_silence : (millionths : ℤ) (from into new : List ℤ) → length into ≡ length from → from ≡ replicate (length from) (pos 0) → new ≡ replicate (length into) (pos 0) →
    new ≡ map (scaled millionths) from
scaled_silence millionths from into new same silent filled =
    filled ∙ ap (λ n. replicate n (pos 0)) same
    ∙ sym (map_none (scaled millionths) (length from) (scaled_zero millionths))
    ∙ ap (map (scaled millionths)) (sym silent)

-- ---- a mix
faded_zero : (at whole : ℕ) → faded (pos 0) (pos 0) at whole ≡ pos 0
faded_zero at whole =
    let first : 0 * (whole - at) ≡ 0 = omega arith in
    let second : 0 * at ≡ 0 = omega arith in
    ap (λ n. int_div (pos n +ℤ pos (0 * at)) (pos whole)) first
    ∙ ap (λ n. int_div (pos 0 +ℤ pos n) (pos whole)) second
    ∙ ap pos (zero-div whole)

mixed_none : (n at whole : ℕ) → mixed (replicate n (pos 0)) (replicate n (pos 0)) at whole ≡ replicate n (pos 0)
mixed_none zero at whole = refl
mixed_none (suc n) at whole =
    ap (λ x. x ∷ mixed (replicate n (pos 0)) (replicate n (pos 0)) (suc at) whole) (faded_zero at whole)
    ∙ ap (λ l. pos 0 ∷ l) (mixed_none n (suc at) whole)

pub mixed_silence : (from to into new : List ℤ) (start whole : ℕ) → length to ≡ length from → length into ≡ length from →
    from ≡ replicate (length from) (pos 0) → to ≡ replicate (length to) (pos 0) → new ≡ replicate (length into) (pos 0) → new ≡ mixed from to start whole
mixed_silence from to into new start whole same same_into silent_from silent_to filled =
    filled ∙ ap (λ n. replicate n (pos 0)) same_into
    ∙ sym (mixed_none (length from) start whole)
    ∙ ap (λ l. mixed l (replicate (length from) (pos 0)) start whole) (sym silent_from)
    ∙ ap (λ n. mixed from (replicate n (pos 0)) start whole) (sym same)
    ∙ ap (λ l. mixed from l start whole) (sym silent_to)

-- ---- a mean
means_none : (by : List ℕ) → zip2 mean_of (replicate (length by) (pos 0)) by ≡ replicate (length by) (pos 0)
means_none [] = refl
means_none (parts ∷ by) = ap (λ n. pos n ∷ zip2 mean_of (replicate (length by) (pos 0)) by) (zero-div parts) ∙ ap (λ l. pos 0 ∷ l) (means_none by)

pub means_of_zeros : (sum into new : List ℤ) (by : List ℕ) → length by ≡ length sum → length into ≡ length sum → sum ≡ replicate (length sum) (pos 0) →
    new ≡ replicate (length into) (pos 0) → new ≡ zip2 mean_of sum by
means_of_zeros sum into new by same same_into silent filled =
    filled ∙ ap (λ n. replicate n (pos 0)) (same_into ∙ sym same)
    ∙ sym (means_none by)
    ∙ ap (λ n. zip2 mean_of (replicate n (pos 0)) by) same
    ∙ ap (λ l. zip2 mean_of l by) (sym silent)
