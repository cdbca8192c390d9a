-- A mix of two samples is a sample.
use Rattle.std.proofs.Common.{◌≡◌, ◌<◌, ◌≤◌, ◌+◌, ◌*◌, ◌/◌, ◌^◌, ◌-◌, ℕ, zero, suc, ℤ, pos, negsuc, ◌+ℤ◌, ◌*ℤ◌, neg_ℤ, arith, refl, w16, w64, FitsSigned}
use Rattle.std.specs.Prelude.{int_div, unsigned_abs}
use Rattle.std.proofs.lemmas.Int.{to_z-of_z, quot_is, quot_fits, fits_signed_mul, ints}
use Rattle.std.proofs.Math.Nat.{mul-le-mul_right}
use Rattle.std.proofs.lemmas.Nat.{div_below}
use Rattle.sample_kernels.specs.Mixing.{faded}
use borrow.Author.Differences.{up, down, fits_out}
use mir.Val.{to_z, of_z}
use lib.Signed.{◌<ℤ◌}

pub neg_parts : (k : ℕ) → (up (neg_ℤ (pos k)) ≡ 0) × (down (neg_ℤ (pos k)) ≡ k)
neg_parts zero = (refl, refl)
neg_parts (suc k) = (refl, refl)

-- a product lies between those of a sample's bounds
above : (a : ℤ) (x : ℕ) → FitsSigned w16 a → up (a *ℤ pos x) ≤ 32767 * x + down (a *ℤ pos x)
above (pos m) x fits =
    let out = fits_out w16 (pos m) fits in
    let small : m ≤ 32767 = omega (arith, out.0) in
    let product = mul-le-mul_right x small in omega (arith, product)
above (negsuc m) x fits = let parts = neg_parts (suc m * x) in omega (arith, parts.0)

below : (a : ℤ) (x : ℕ) → FitsSigned w16 a → down (a *ℤ pos x) ≤ 32768 * x + up (a *ℤ pos x)
below (pos m) x fits = omega arith
below (negsuc m) x fits =
    let out = fits_out w16 (negsuc m) fits in
    let small : suc m ≤ 32768 = omega (arith, out.1) in
    let product = mul-le-mul_right x small in
    let parts = neg_parts (suc m * x) in omega (arith, product, parts.0, parts.1)

fits_neg : (q : ℕ) → q < 32769 → FitsSigned w16 (neg_ℤ (pos q))
fits_neg zero small = record { sfits = omega arith }
fits_neg (suc q) small = record { sfits = omega (arith, small) }

-- what lies between those bounds of a whole is, divided by it, a sample
pub quotient : (s : ℤ) (whole : ℕ) → 0 < whole → up s ≤ 32767 * whole + down s → down s ≤ 32768 * whole + up s → FitsSigned w16 (int_div s (pos whole))
quotient (pos n) whole some over under =
    let q = div_below n whole 32768 some (omega arith) in
    record { sfits = q }
quotient (negsuc n) whole some over under =
    fits_neg (suc n / whole) (div_below (suc n) whole 32769 some (omega arith))

-- the sum of a mix lies between those bounds
pub sum_bounds : (a b : ℤ) (at whole : ℕ) → FitsSigned w16 a → FitsSigned w16 b → at < whole →
    (up ((a *ℤ pos (whole - at)) +ℤ (b *ℤ pos at)) ≤ 32767 * whole + down ((a *ℤ pos (whole - at)) +ℤ (b *ℤ pos at)))
    × (down ((a *ℤ pos (whole - at)) +ℤ (b *ℤ pos at)) ≤ 32768 * whole + up ((a *ℤ pos (whole - at)) +ℤ (b *ℤ pos at)))
sum_bounds a b at whole fit_a fit_b less =
    let over_a = above a (whole - at) fit_a in
    let over_b = above b at fit_b in
    let under_a = below a (whole - at) fit_a in
    let under_b = below b at fit_b in
    (omega (arith, ints, over_a, over_b), omega (arith, ints, under_a, under_b))

pub faded_fits : (a b : ℤ) (at whole : ℕ) → FitsSigned w16 a → FitsSigned w16 b → at < whole → FitsSigned w16 (faded a b at whole)
faded_fits a b at whole fit_a fit_b less =
    let bounds = sum_bounds a b at whole fit_a fit_b less in
    quotient ((a *ℤ pos (whole - at)) +ℤ (b *ℤ pos at)) whole (omega arith) bounds.0 bounds.1

pub small_abs : (a : ℤ) → FitsSigned w16 a → unsigned_abs a ≤ 32768
small_abs (pos m) fits = let out = fits_out w16 (pos m) fits in omega (arith, out.0)
small_abs (negsuc m) fits = let out = fits_out w16 (negsuc m) fits in omega (arith, out.1)

pub product_fits : (a : ℤ) (times : ℕ) → FitsSigned w16 a → times < 2 ^ 32 → FitsSigned w64 (a *ℤ pos times)
product_fits a times fits small = fits_signed_mul w64 a (pos times) 32768 (2 ^ 32) (small_abs a fits) (omega (arith, small)) (omega arith)

-- what the code computes
pub computed : (x y d a b : ℤ) (at whole : ℕ) → x ≡ to_z w16 (of_z w16 a) *ℤ pos (whole - at) → y ≡ to_z w16 (of_z w16 b) *ℤ pos at → d ≡ pos whole →
    FitsSigned w16 a → FitsSigned w16 b → at < whole → whole < 2 ^ 32 →
    to_z w64 (of_z w64 (int_div (to_z w64 (of_z w64 (to_z w64 (of_z w64 x) +ℤ to_z w64 (of_z w64 y)))) (to_z w64 (of_z w64 d)))) ≡ faded a b at whole
computed x y d a b at whole is_x is_y is_d fit_a fit_b less small =
    let from = product_fits a (whole - at) fit_a (omega arith) in
    let to = product_fits b at fit_b (omega arith) in
    let bounds = sum_bounds a b at whole fit_a fit_b less in
    let sum : FitsSigned w64 ((a *ℤ pos (whole - at)) +ℤ (b *ℤ pos at)) = omega (arith, ints, bounds.0, bounds.1) in
    let divisor : FitsSigned w64 (pos whole) = omega (arith, ints) in
    let some : pos 0 <ℤ pos whole = omega (arith, ints) in
    rw (is_x, is_y, is_d, to_z-of_z w16 a fit_a, to_z-of_z w16 b fit_b, to_z-of_z w64 (a *ℤ pos (whole - at)) from, to_z-of_z w64 (b *ℤ pos at) to)
    (quot_is w64 ((a *ℤ pos (whole - at)) +ℤ (b *ℤ pos at)) (pos whole) sum divisor (quot_fits w64 ((a *ℤ pos (whole - at)) +ℤ (b *ℤ pos at)) (pos whole) sum some))
