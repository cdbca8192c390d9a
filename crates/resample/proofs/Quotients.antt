-- A mean of two numbers, weighted by the parts of a whole, lies between them.
use Rattle.std.proofs.Common.{◌≡◌, ◌<◌, ◌≤◌, ◌+◌, ◌*◌, ◌/◌, ◌-◌, ◌^◌, ◌∙◌, ℕ, zero, suc, ℤ, pos, negsuc, ◌+ℤ◌, ◌*ℤ◌, neg_ℤ, arith, refl, ap, sym, w16, w64, FitsSigned}
use Rattle.std.specs.Prelude.{int_div, ◌≤ℤ◌, unsigned_abs}
use Rattle.std.proofs.lemmas.Int.{to_z-of_z, quot_is, quot_fits, fits_signed_mul, ints, clamps}
use Rattle.std.proofs.lemmas.Nat.{le-div}
use Rattle.std.proofs.Math.Nat.{mul-add, mul-le-mul_right, mul_comm, div-le_of_le-mul}
use Rattle.resample.specs.Resampled.{LiesBetween, interpolated}
use borrow.Author.Differences.{up, down, fits_out}
use mir.Val.{to_z, of_z}
use lib.Signed.{◌<ℤ◌}

neg_parts : (k : ℕ) → (up (neg_ℤ (pos k)) ≡ 0) × (down (neg_ℤ (pos k)) ≡ k)
neg_parts zero = (refl, refl)
neg_parts (suc k) = (refl, refl)

-- products keep the order
times_le : (a b : ℤ) (w : ℕ) → a ≤ℤ b → (a *ℤ pos w) ≤ℤ (b *ℤ pos w)
times_le (pos a) (pos b) w le =
    let small : a ≤ b = omega (arith, ints, le) in
    let product = mul-le-mul_right w small in omega (arith, ints, product)
times_le (pos a) (negsuc b) w le = absurd (omega (arith, ints, le))
times_le (negsuc a) (pos b) w le = let parts = neg_parts (suc a * w) in omega (arith, ints, parts.0, parts.1)
times_le (negsuc a) (negsuc b) w le =
    let small : suc b ≤ suc a = omega (arith, ints, le) in
    let product = mul-le-mul_right w small in
    let left = neg_parts (suc a * w) in
    let right = neg_parts (suc b * w) in
    omega (arith, ints, product, left.0, left.1, right.0, right.1)

-- a number times a whole is the sum of it times both parts
times_parts : (a : ℤ) (x y w : ℕ) → x + y ≡ w → (a *ℤ pos w) ≡ (a *ℤ pos x) +ℤ (a *ℤ pos y)
times_parts (pos m) x y w is =
    let all : m * w ≡ m * x + m * y = ap (λ n. m * n) (sym is) ∙ mul-add m x y in omega (arith, ints, all)
times_parts (negsuc m) x y w is =
    let all : suc m * w ≡ suc m * x + suc m * y = ap (λ n. suc m * n) (sym is) ∙ mul-add (suc m) x y in
    let whole = neg_parts (suc m * w) in
    let left = neg_parts (suc m * x) in
    let right = neg_parts (suc m * y) in
    omega (arith, ints, all, whole.0, whole.1, left.0, left.1, right.0, right.1)

times_none : (a : ℤ) → (a *ℤ pos 0) ≡ pos 0
times_none (pos m) = let is : m * 0 ≡ 0 = omega arith in ap pos is
times_none (negsuc m) = let is : suc m * 0 ≡ 0 = omega arith in ap (λ n. neg_ℤ (pos n)) is

-- what is at least so many wholes is, divided by the whole, at least as many; and likewise at most
quotient_low : (m s : ℤ) (w : ℕ) → 0 < w → (m *ℤ pos w) ≤ℤ s → m ≤ℤ int_div s (pos w)
quotient_low (pos m) (pos n) w some le =
    let small : m * w ≤ n = omega (arith, ints, le) in
    let q = le-div m n w some small in omega (arith, ints, q)
quotient_low (pos m) (negsuc n) w some le = absurd (omega (arith, ints, le))
quotient_low (negsuc m) (pos n) w some le = omega (arith, ints)
quotient_low (negsuc m) (negsuc n) w some le =
    let parts = neg_parts (suc m * w) in
    let small : suc n ≤ suc m * w = omega (arith, ints, le, parts.0, parts.1) in
    let turned : suc n ≤ w * suc m = rw (mul_comm w (suc m)) small in
    let q = div-le_of_le-mul w turned in
    let out = neg_parts (suc n / w) in
    omega (arith, ints, q, out.0, out.1)

quotient_high : (m s : ℤ) (w : ℕ) → 0 < w → s ≤ℤ (m *ℤ pos w) → int_div s (pos w) ≤ℤ m
quotient_high (pos m) (pos n) w some le =
    let small : n ≤ m * w = omega (arith, ints, le) in
    let turned : n ≤ w * m = rw (mul_comm w m) small in
    let q = div-le_of_le-mul w turned in omega (arith, ints, q)
quotient_high (pos m) (negsuc n) w some le = let out = neg_parts (suc n / w) in omega (arith, ints, out.0, out.1)
quotient_high (negsuc m) (pos n) w some le =
    let parts = neg_parts (suc m * w) in
    let least : 1 ≤ suc m = omega arith in
    let one = mul-le-mul_right w least in
    absurd (omega (arith, ints, le, parts.0, parts.1, one, some))
quotient_high (negsuc m) (negsuc n) w some le =
    let parts = neg_parts (suc m * w) in
    let small : suc m * w ≤ suc n = omega (arith, ints, le, parts.0, parts.1) in
    let q = le-div (suc m) (suc n) w some small in
    let out = neg_parts (suc n / w) in
    omega (arith, ints, q, out.0, out.1)

sum_low : (m a b : ℤ) (part whole : ℕ) → part < whole → m ≤ℤ a → m ≤ℤ b → m ≤ℤ interpolated a b part whole
sum_low m a b part whole less le_a le_b =
    let first = times_le m a (whole - part) le_a in
    let second = times_le m b part le_b in
    let all = times_parts m (whole - part) part whole (omega (arith, less)) in
    quotient_low m ((a *ℤ pos (whole - part)) +ℤ (b *ℤ pos part)) whole (omega (arith, less)) (omega (arith, ints, first, second, all))

sum_high : (m a b : ℤ) (part whole : ℕ) → part < whole → a ≤ℤ m → b ≤ℤ m → interpolated a b part whole ≤ℤ m
sum_high m a b part whole less le_a le_b =
    let first = times_le a m (whole - part) le_a in
    let second = times_le b m part le_b in
    let all = times_parts m (whole - part) part whole (omega (arith, less)) in
    quotient_high m ((a *ℤ pos (whole - part)) +ℤ (b *ℤ pos part)) whole (omega (arith, less)) (omega (arith, ints, first, second, all))

pub lies_between : (a b : ℤ) (part whole : ℕ) → part < whole → LiesBetween a b (interpolated a b part whole)
lies_between a b part whole less = record {
  low = sum_low _ a b part whole less (omega (arith, ints, clamps)) (omega (arith, ints, clamps));
  high = sum_high _ a b part whole less (omega (arith, ints, clamps)) (omega (arith, ints, clamps));
}

-- what lies between two samples is a sample
pub between_fits : (a b : ℤ) (part whole : ℕ) → FitsSigned w16 a → FitsSigned w16 b → part < whole → FitsSigned w16 (interpolated a b part whole)
between_fits a b part whole fit_a fit_b less =
    let lies = lies_between a b part whole less in
    let low = lies.low in
    let high = lies.high in
    omega (arith, ints, clamps, low, high, fit_a, fit_b)

-- no part of the way from a number is that number
pub at_first : (a b : ℤ) (whole : ℕ) → 0 < whole → interpolated a b 0 whole ≡ a
at_first a b whole some =
    let none = times_none b in
    let none_less : whole - 0 ≡ whole = omega arith in
    let all : (a *ℤ pos (whole - 0)) ≡ (a *ℤ pos whole) = ap (λ n. a *ℤ pos n) none_less in
    let low = quotient_low a ((a *ℤ pos (whole - 0)) +ℤ (b *ℤ pos 0)) whole some (omega (arith, ints, none, all)) in
    let high = quotient_high a ((a *ℤ pos (whole - 0)) +ℤ (b *ℤ pos 0)) whole some (omega (arith, ints, none, all)) in
    omega (arith, ints, low, high)

small_abs : (a : ℤ) → FitsSigned w16 a → unsigned_abs a ≤ 32768
small_abs (pos m) fits = let out = fits_out w16 (pos m) fits in omega (arith, out.0)
small_abs (negsuc m) fits = let out = fits_out w16 (negsuc m) fits in omega (arith, out.1)

pub product_fits : (a : ℤ) (times : ℕ) → FitsSigned w16 a → times < 2 ^ 32 → FitsSigned w64 (a *ℤ pos times)
product_fits a times fits small = fits_signed_mul w64 a (pos times) 32768 (2 ^ 32) (small_abs a fits) (omega (arith, small)) (omega arith)

-- a sum of both products lies between a sample's bounds, that many times
pub sum_bounds : (a b : ℤ) (part whole : ℕ) → FitsSigned w16 a → FitsSigned w16 b → part < whole →
    (up ((a *ℤ pos (whole - part)) +ℤ (b *ℤ pos part)) ≤ 32767 * whole + down ((a *ℤ pos (whole - part)) +ℤ (b *ℤ pos part)))
    × (down ((a *ℤ pos (whole - part)) +ℤ (b *ℤ pos part)) ≤ 32768 * whole + up ((a *ℤ pos (whole - part)) +ℤ (b *ℤ pos part)))
sum_bounds a b part whole fit_a fit_b less =
    let top_a = times_le a (pos 32767) (whole - part) (omega (arith, ints, fit_a)) in
    let top_b = times_le b (pos 32767) part (omega (arith, ints, fit_b)) in
    let low_a = times_le (negsuc 32767) a (whole - part) (omega (arith, ints, fit_a)) in
    let low_b = times_le (negsuc 32767) b part (omega (arith, ints, fit_b)) in
    let neg_a = neg_parts (32768 * (whole - part)) in
    let neg_b = neg_parts (32768 * part) in
    (omega (arith, ints, top_a, top_b, less), omega (arith, ints, low_a, low_b, neg_a.0, neg_a.1, neg_b.0, neg_b.1, less))

pub sum_fits : (a b : ℤ) (part whole : ℕ) → FitsSigned w16 a → FitsSigned w16 b → part < whole → whole < 2 ^ 32 →
    FitsSigned w64 ((a *ℤ pos (whole - part)) +ℤ (b *ℤ pos part))
sum_fits a b part whole fit_a fit_b less small =
    let bounds = sum_bounds a b part whole fit_a fit_b less in
    omega (arith, ints, bounds.0, bounds.1, small)

-- what the code computes
pub computed : (x y d a b : ℤ) (part whole : ℕ) → x ≡ to_z w16 (of_z w16 a) *ℤ pos (whole - part) → y ≡ to_z w16 (of_z w16 b) *ℤ pos part → d ≡ pos whole →
    FitsSigned w16 a → FitsSigned w16 b → part < whole → whole < 2 ^ 32 →
    to_z w64 (of_z w64 (int_div (to_z w64 (of_z w64 (to_z w64 (of_z w64 x) +ℤ to_z w64 (of_z w64 y)))) (to_z w64 (of_z w64 d)))) ≡ interpolated a b part whole
computed x y d a b part whole is_x is_y is_d fit_a fit_b less small =
    let from = product_fits a (whole - part) fit_a (omega (arith, small)) in
    let to = product_fits b part fit_b (omega (arith, less, small)) in
    let sum : FitsSigned w64 ((a *ℤ pos (whole - part)) +ℤ (b *ℤ pos part)) = sum_fits a b part whole fit_a fit_b less small in
    let divisor : FitsSigned w64 (pos whole) = omega (arith, ints, small) in
    let some : pos 0 <ℤ pos whole = omega (arith, ints, less) in
    rw (is_x, is_y, is_d, to_z-of_z w16 a fit_a, to_z-of_z w16 b fit_b, to_z-of_z w64 (a *ℤ pos (whole - part)) from, to_z-of_z w64 (b *ℤ pos part) to)
    (quot_is w64 ((a *ℤ pos (whole - part)) +ℤ (b *ℤ pos part)) (pos whole) sum divisor (quot_fits w64 ((a *ℤ pos (whole - part)) +ℤ (b *ℤ pos part)) (pos whole) sum some))
