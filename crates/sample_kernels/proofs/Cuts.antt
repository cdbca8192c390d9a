-- A factor that is cut gives the same samples.
use Rattle.std.proofs.Common.{inl, inr, w16, w64, FitsSigned, to_z, of_z, ◌≡◌, ◌≤◌, ◌*◌, ◌/◌, ◌∙◌, ℕ, zero, suc, ℤ, pos, negsuc, ◌*ℤ◌, neg_ℤ, arith, ap, sym}
use Rattle.std.specs.Prelude.{int_div, unsigned_abs, ◌≤ℤ◌}
use Rattle.std.specs.Int.{int_max, int_min}
use Rattle.std.proofs.lemmas.Bool.{cases_lt}
use Rattle.std.proofs.lemmas.Int.{ints, clamps, to_z-of_z, fits_signed_mul, quot_is, quot_fits}
use Rattle.std.proofs.Math.Nat.{mul-le-mul_right}
use Rattle.sample_kernels.specs.Samples.{clamped, scaled}
use Rattle.sample_kernels.proofs.Bounds.{small_abs}

abbrev pub cut : ℤ → ℤ
cut millionths = int_max (negsuc 32767999999) (int_min millionths (pos 32768000000))

above : (n : ℕ) → 32768000000 ≤ n → clamped (int_div (pos n) (pos 1000000)) ≡ pos 32767
above n many = omega (arith, ints, clamps, many)

far_below : (k : ℕ) → 32768 ≤ k → clamped (neg_ℤ (pos k)) ≡ negsuc 32767
far_below zero large = absurd (omega (arith, large))
far_below (suc k) large = omega (arith, ints, clamps, large)

below : (n : ℕ) → 32768000000 ≤ n → clamped (int_div (neg_ℤ (pos n)) (pos 1000000)) ≡ negsuc 32767
below zero many = absurd (omega (arith, many))
below (suc n) many = far_below (suc n / 1000000) (omega (arith, many))

at_least : (j k : ℕ) → 32768000000 ≤ k → 32768000000 ≤ suc j * k
at_least j k many =
    let one : 1 ≤ suc j = omega arith in
    let product = mul-le-mul_right k one in omega (arith, many, product)

-- the product with a factor above the cut
high : (sample : ℤ) (k : ℕ) → 32768000000 ≤ k → scaled (pos k) sample ≡ scaled (pos 32768000000) sample
high (pos zero) k many = let none : 0 * k ≡ 0 * 32768000000 = omega arith in ap (λ n. clamped (int_div (pos n) (pos 1000000))) none
high (pos (suc j)) k many = above (suc j * k) (at_least j k many) ∙ sym (above (suc j * 32768000000) (at_least j 32768000000 (omega arith)))
high (negsuc j) k many = below (suc j * k) (at_least j k many) ∙ sym (below (suc j * 32768000000) (at_least j 32768000000 (omega arith)))

-- the same below zero
low : (sample : ℤ) (k : ℕ) → 32767999999 ≤ k → scaled (negsuc k) sample ≡ scaled (negsuc 32767999999) sample
low (pos zero) k many = let none : 0 * suc k ≡ 0 * 32768000000 = omega arith in ap (λ n. clamped (int_div (neg_ℤ (pos n)) (pos 1000000))) none
low (pos (suc j)) k many = below (suc j * suc k) (at_least j (suc k) (omega (arith, many))) ∙ sym (below (suc j * 32768000000) (at_least j 32768000000 (omega arith)))
low (negsuc j) k many = above (suc j * suc k) (at_least j (suc k) (omega (arith, many))) ∙ sym (above (suc j * 32768000000) (at_least j 32768000000 (omega arith)))

pub scaled_by_cut : (millionths sample : ℤ) → scaled (cut millionths) sample ≡ scaled millionths sample
scaled_by_cut (pos k) sample =
    elim (cases_lt k 32768000000) [
      | inl less ↦ (let same : cut (pos k) ≡ pos k = omega (arith, ints, clamps, less) in ap (λ m. scaled m sample) same)
      | inr most ↦ (let same : cut (pos k) ≡ pos 32768000000 = omega (arith, ints, clamps, most) in ap (λ m. scaled m sample) same ∙ sym (high sample k most))
    ]
scaled_by_cut (negsuc k) sample =
    elim (cases_lt k 32767999999) [
      | inl less ↦ (let same : cut (negsuc k) ≡ negsuc k = omega (arith, ints, clamps, less) in ap (λ m. scaled m sample) same)
      | inr most ↦ (let same : cut (negsuc k) ≡ negsuc 32767999999 = omega (arith, ints, clamps, most) in ap (λ m. scaled m sample) same ∙ sym (low sample k most))
    ]

pub clamped_fits : (number : ℤ) → FitsSigned w16 (clamped number)
clamped_fits number = omega (arith, ints, clamps)

pub cut_abs : (millionths : ℤ) → negsuc 32767999999 ≤ℤ millionths → millionths ≤ℤ pos 32768000000 → unsigned_abs millionths ≤ 32768000000
cut_abs (pos k) low high = omega (arith, ints, high)
cut_abs (negsuc k) low high = omega (arith, ints, low)

-- what the code computes
pub scaled_computed : (x y sample millionths : ℤ) → x ≡ to_z w16 (of_z w16 sample) →
    y ≡ clamped (to_z w64 (of_z w64 (int_div (to_z w64 (of_z w64 (to_z w64 (of_z w64 x) *ℤ to_z w64 (of_z w64 millionths)))) (pos 1000000)))) →
    FitsSigned w16 sample → FitsSigned w64 millionths → negsuc 32767999999 ≤ℤ millionths → millionths ≤ℤ pos 32768000000 →
    to_z w16 (of_z w16 (to_z w64 (of_z w64 y))) ≡ scaled millionths sample
scaled_computed x y sample millionths is_x is_y fits fits_m low high =
    let product : FitsSigned w64 (sample *ℤ millionths) = fits_signed_mul w64 sample millionths 32768 32768000000 (small_abs sample fits) (cut_abs millionths low high) (omega arith) in
    let wide : FitsSigned w64 sample = omega (arith, fits) in
    let quotient_fits = quot_fits w64 (sample *ℤ millionths) (pos 1000000) product (omega (arith, ints)) in
    let quotient_is = quot_is w64 (sample *ℤ millionths) (pos 1000000) product (omega (arith, ints)) quotient_fits in
    let is : y ≡ scaled millionths sample =
    rw (is_y, is_x, to_z-of_z w16 sample fits, to_z-of_z w64 sample wide, to_z-of_z w64 millionths fits_m) (ap clamped quotient_is) in
    let small = clamped_fits (int_div (sample *ℤ millionths) (pos 1000000)) in
    let large : FitsSigned w64 (scaled millionths sample) = omega (arith, small) in
    rw is (ap (λ n. to_z w16 (of_z w16 n)) (to_z-of_z w64 (scaled millionths sample) large) ∙ to_z-of_z w16 (scaled millionths sample) small)
