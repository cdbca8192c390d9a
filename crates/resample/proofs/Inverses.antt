-- A quotient by a product with 2^48 / whole.
use Rattle.std.proofs.Common.{◌≡◌, ◌<◌, ◌≤◌, ◌+◌, ◌*◌, ◌/◌, ◌%◌, ◌-◌, ◌∙◌, ℕ, suc, ℤ, pos, negsuc, ◌+ℤ◌, ◌*ℤ◌, neg_ℤ, arith, ap, refl, mul-le-mul, mul-le-mul_right, le_of_mul-le-mul_right, lt_of_mul-lt-mul_right, mod-lt, div-add-mod', le_of_lt, w16, w32, w64, FitsSigned, to_z, of_z}
use Rattle.std.specs.Prelude.{int_div, unsigned_abs}
use Rattle.std.proofs.lemmas.Int.{ints, to_z-of_z}
use Rattle.std.proofs.lemmas.Nat.{div_below}
use borrow.Author.Differences.{up, down}
use Rattle.resample.specs.Reciprocals.{inverse_of, signed_as}
use Rattle.resample.specs.Resampled.{interpolated}
use Rattle.resample.proofs.Quotients.{between_fits, product_fits, sum_bounds, sum_fits}

-- the product of a number with the inverse, between 2^48 times the quotient and that of the quotient after it
times_inverse : (n q r d : ℕ) → q * d + r ≡ 281474976710656 → (n * (q + 1)) * d + n * r ≡ n * 281474976710656 + n * d
times_inverse n q r d is =
    let e : n * (q * d + r) ≡ n * 281474976710656 = ap (λ x. n * x) is in
    omega (arith, e)

low_times : (t p d n r s : ℕ) → p * d + n * r ≡ n * 281474976710656 + n * d → n * r ≤ n * d → t * d + s ≡ n → (t * 281474976710656) * d ≤ p * d
low_times t p d n r s is below parts = omega (arith, is, below, parts)

high_times : (t p d n r s : ℕ) → p * d + n * r ≡ n * 281474976710656 + n * d → n * d < 281474976710656 → t * d + s ≡ n → s < d → p * d < ((t + 1) * 281474976710656) * d
high_times t p d n r s is small parts less = omega (arith, is, small, parts, less)

pinned : (t p : ℕ) → t * 281474976710656 ≤ p → p < (t + 1) * 281474976710656 → p / 281474976710656 ≡ t
pinned t p low high = omega (arith, low, high)

quotient_by : (n d : ℕ) → 0 < d → n * d < 281474976710656 → n * inverse_of d / 281474976710656 ≡ n / d
quotient_by n d some small =
    let q = 281474976710656 / d in
    let r = 281474976710656 % d in
    let t = n / d in
    let s = n % d in
    let parts : t * d + s ≡ n = div-add-mod' n d in
    let less_r : r < d = mod-lt 281474976710656 some in
    let less_s : s < d = mod-lt n some in
    let is = times_inverse n q r d (div-add-mod' 281474976710656 d) in
    let p : r * n ≤ d * n = mul-le-mul_right n (le_of_lt less_r) in
    let below : n * r ≤ n * d = omega (arith, p) in
    pinned t (n * (q + 1))
    (le_of_mul-le-mul_right (low_times t (n * (q + 1)) d n r s is below parts) some)
    (lt_of_mul-lt-mul_right d (high_times t (n * (q + 1)) d n r s is small parts less_s))

-- ---- the sum of both samples, each so many times
abbrev pub sum_of : ℤ → ℤ → ℕ → ℕ → ℤ
sum_of a b part whole = (a *ℤ pos (whole - part)) +ℤ (b *ℤ pos part)

abs_of : (z : ℤ) (n : ℕ) → up z ≤ 32767 * n + down z → down z ≤ 32768 * n + up z → unsigned_abs z ≤ 32768 * n
abs_of (pos k) n above below = omega (arith, above)
abs_of (negsuc k) n above below = omega (arith, below)

pub sum_small : (a b : ℤ) (part whole : ℕ) → FitsSigned w16 a → FitsSigned w16 b → part < whole → unsigned_abs (sum_of a b part whole) ≤ 32768 * whole
sum_small a b part whole fit_a fit_b less =
    let bounds = sum_bounds a b part whole fit_a fit_b less in
    abs_of (sum_of a b part whole) whole bounds.0 bounds.1

-- what the code adds
pub added : (x y a b : ℤ) (part whole : ℕ) → x ≡ to_z w16 (of_z w16 a) *ℤ pos (whole - part) → y ≡ to_z w16 (of_z w16 b) *ℤ pos part →
    FitsSigned w16 a → FitsSigned w16 b → part < whole → whole ≤ 92681 → to_z w64 (of_z w64 x) +ℤ to_z w64 (of_z w64 y) ≡ sum_of a b part whole
added x y a b part whole is_x is_y fit_a fit_b less short =
    let from = product_fits a (whole - part) fit_a (omega (arith, short)) in
    let to = product_fits b part fit_b (omega (arith, less, short)) in
    rw (is_x, is_y, to_z-of_z w16 a fit_a, to_z-of_z w16 b fit_b, to_z-of_z w64 (a *ℤ pos (whole - part)) from, to_z-of_z w64 (b *ℤ pos part) to) refl

pub added_fits : (a b : ℤ) (part whole : ℕ) → FitsSigned w16 a → FitsSigned w16 b → part < whole → whole ≤ 92681 → FitsSigned w64 (sum_of a b part whole)
added_fits a b part whole fit_a fit_b less short = sum_fits a b part whole fit_a fit_b less (omega (arith, short))

-- ---- the quotient, with its sign
small_product : (n whole : ℕ) → n ≤ 32768 * whole → whole ≤ 92681 → n * whole < 281474976710656
small_product n whole small short =
    let far : n ≤ 3036971008 = omega (arith, small, short) in
    let p : n * whole ≤ 3036971008 * 92681 = mul-le-mul far short in
    omega (arith, p)

pub quotient_is : (z : ℤ) (whole : ℕ) → 0 < whole → whole ≤ 92681 → unsigned_abs z ≤ 32768 * whole →
    signed_as z (unsigned_abs z * inverse_of whole / 281474976710656) ≡ int_div z (pos whole)
quotient_is (pos n) whole some short small = ap pos (quotient_by n whole some (small_product n whole small short))
quotient_is (negsuc k) whole some short small = ap (λ n. neg_ℤ (pos n)) (quotient_by (suc k) whole some (small_product (suc k) whole small short))

pub quotient_small : (n whole : ℕ) → 0 < whole → whole ≤ 92681 → n ≤ 32768 * whole → n * inverse_of whole / 281474976710656 ≤ 32768
quotient_small n whole some short small =
    let below = div_below n whole 32769 some (omega (arith, small, some)) in
    let is = quotient_by n whole some (small_product n whole small short) in
    omega (arith, below, is)

-- the product with the inverse
pub sized : (n whole : ℕ) → 0 < whole → whole ≤ 92681 → n ≤ 32768 * whole → n * inverse_of whole < 18446744073709551616
sized n whole some short small =
    let q = 281474976710656 / whole in
    let e : q * whole + 281474976710656 % whole ≡ 281474976710656 = div-add-mod' 281474976710656 whole in
    let p : n * (q + 1) ≤ (32768 * whole) * (q + 1) = mul-le-mul_right (q + 1) small in
    omega (arith, e, p, short)

-- what the code computes
pub quotient_between : (q s a b : ℤ) (part whole : ℕ) → q ≡ int_div (to_z w64 (of_z w64 s)) (pos whole) → s ≡ sum_of a b part whole →
    FitsSigned w16 a → FitsSigned w16 b → part < whole → whole ≤ 92681 → to_z w32 (of_z w32 q) ≡ interpolated a b part whole
quotient_between q s a b part whole is_q is_s fit_a fit_b less short =
    let fits = between_fits a b part whole fit_a fit_b less in
    let wide : FitsSigned w32 (interpolated a b part whole) = omega (arith, ints, fits) in
    let q_is : q ≡ interpolated a b part whole =
    is_q ∙ ap (λ z. int_div (to_z w64 (of_z w64 z)) (pos whole)) is_s ∙ ap (λ z. int_div z (pos whole)) (to_z-of_z w64 (sum_of a b part whole) (added_fits a b part whole fit_a fit_b less short)) in
    ap (λ z. to_z w32 (of_z w32 z)) q_is ∙ to_z-of_z w32 (interpolated a b part whole) wide
