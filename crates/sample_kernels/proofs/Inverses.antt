-- A quotient by a product with 2^47 / whole.
use Rattle.std.proofs.Common.{◌≡◌, ◌<◌, ◌≤◌, ◌+◌, ◌*◌, ◌/◌, ◌%◌, ◌-◌, ◌∙◌, ℕ, suc, ℤ, pos, negsuc, ◌+ℤ◌, ◌*ℤ◌, neg_ℤ, arith, ap, refl, mul-le-mul, mul-le-mul_right, le_of_mul-le-mul_right, lt_of_mul-lt-mul_right, mod-lt, div-add-mod', le_of_lt, w16, w32, FitsSigned, to_z, of_z}
use Rattle.std.specs.Prelude.{int_div, unsigned_abs}
use Rattle.std.proofs.lemmas.Int.{ints, to_z-of_z, fits_signed_mul}
use Rattle.std.proofs.lemmas.Nat.{div_below}
use borrow.Author.Differences.{up, down}
use Rattle.sample_kernels.specs.Mixing.{faded}
use Rattle.sample_kernels.specs.Reciprocals.{inverse_of, signed_as}
use Rattle.sample_kernels.proofs.Bounds.{small_abs, sum_bounds, faded_fits}

-- the product of a number with the inverse, between 2^47 times the quotient and that of the quotient after it
times_inverse : (n q r d : ℕ) → q * d + r ≡ 140737488355328 → (n * (q + 1)) * d + n * r ≡ n * 140737488355328 + n * d
times_inverse n q r d is =
    let e : n * (q * d + r) ≡ n * 140737488355328 = ap (λ x. n * x) is in
    omega (arith, e)

low_times : (t p d n r s : ℕ) → p * d + n * r ≡ n * 140737488355328 + n * d → n * r ≤ n * d → t * d + s ≡ n → (t * 140737488355328) * d ≤ p * d
low_times t p d n r s is below parts = omega (arith, is, below, parts)

high_times : (t p d n r s : ℕ) → p * d + n * r ≡ n * 140737488355328 + n * d → n * d < 140737488355328 → t * d + s ≡ n → s < d → p * d < ((t + 1) * 140737488355328) * d
high_times t p d n r s is small parts less = omega (arith, is, small, parts, less)

between : (t p : ℕ) → t * 140737488355328 ≤ p → p < (t + 1) * 140737488355328 → p / 140737488355328 ≡ t
between t p low high = omega (arith, low, high)

pub quotient_by : (n d : ℕ) → 0 < d → n * d < 140737488355328 → n * inverse_of d / 140737488355328 ≡ n / d
quotient_by n d some small =
    let q = 140737488355328 / d in
    let r = 140737488355328 % d in
    let t = n / d in
    let s = n % d in
    let parts : t * d + s ≡ n = div-add-mod' n d in
    let less_r : r < d = mod-lt 140737488355328 some in
    let less_s : s < d = mod-lt n some in
    let is = times_inverse n q r d (div-add-mod' 140737488355328 d) in
    let p : r * n ≤ d * n = mul-le-mul_right n (le_of_lt less_r) in
    let below : n * r ≤ n * d = omega (arith, p) in
    between t (n * (q + 1))
    (le_of_mul-le-mul_right (low_times t (n * (q + 1)) d n r s is below parts) some)
    (lt_of_mul-lt-mul_right d (high_times t (n * (q + 1)) d n r s is small parts less_s))

-- ---- the sum of a short mix
abbrev pub sum_of : ℤ → ℤ → ℕ → ℕ → ℤ
sum_of a b at whole = (a *ℤ pos (whole - at)) +ℤ (b *ℤ pos at)

pub sum_fits : (a b : ℤ) (at whole : ℕ) → FitsSigned w16 a → FitsSigned w16 b → at < whole → whole < 65536 → FitsSigned w32 (sum_of a b at whole)
sum_fits a b at whole fit_a fit_b less short =
    let bounds = sum_bounds a b at whole fit_a fit_b less in
    omega (arith, ints, bounds.0, bounds.1, short)

abs_of : (z : ℤ) (n : ℕ) → up z ≤ 32767 * n + down z → down z ≤ 32768 * n + up z → unsigned_abs z ≤ 32768 * n
abs_of (pos k) n above below = omega (arith, above)
abs_of (negsuc k) n above below = omega (arith, below)

pub sum_small : (a b : ℤ) (at whole : ℕ) → FitsSigned w16 a → FitsSigned w16 b → at < whole → unsigned_abs (sum_of a b at whole) ≤ 32768 * whole
sum_small a b at whole fit_a fit_b less =
    let bounds = sum_bounds a b at whole fit_a fit_b less in
    abs_of (sum_of a b at whole) whole bounds.0 bounds.1

pub weighted_fits : (a : ℤ) (times : ℕ) → FitsSigned w16 a → times < 65536 → FitsSigned w32 (a *ℤ pos times)
weighted_fits a times fits small = fits_signed_mul w32 a (pos times) 32768 65535 (small_abs a fits) (omega (arith, small)) (omega arith)

-- what the code adds
pub short_sum : (x y a b : ℤ) (at whole : ℕ) → x ≡ to_z w16 (of_z w16 a) *ℤ pos (whole - at) → y ≡ to_z w16 (of_z w16 b) *ℤ pos at →
    FitsSigned w16 a → FitsSigned w16 b → at < whole → whole < 65536 → to_z w32 (of_z w32 x) +ℤ to_z w32 (of_z w32 y) ≡ sum_of a b at whole
short_sum x y a b at whole is_x is_y fit_a fit_b less short =
    let from = weighted_fits a (whole - at) fit_a (omega (arith, short)) in
    let to = weighted_fits b at fit_b (omega (arith, less, short)) in
    rw (is_x, is_y, to_z-of_z w16 a fit_a, to_z-of_z w16 b fit_b, to_z-of_z w32 (a *ℤ pos (whole - at)) from, to_z-of_z w32 (b *ℤ pos at) to) refl

-- ---- the quotient, with its sign
small_product : (n whole : ℕ) → n ≤ 32768 * whole → whole < 65536 → n * whole < 140737488355328
small_product n whole small short =
    let far : n ≤ 2147450880 = omega (arith, small, short) in
    let near : whole ≤ 65535 = omega (arith, short) in
    let p : n * whole ≤ 2147450880 * 65535 = mul-le-mul far near in
    omega (arith, p)

pub quotient_is : (z : ℤ) (whole : ℕ) → 0 < whole → whole < 65536 → unsigned_abs z ≤ 32768 * whole →
    signed_as z (unsigned_abs z * inverse_of whole / 140737488355328) ≡ int_div z (pos whole)
quotient_is (pos n) whole some short small = ap pos (quotient_by n whole some (small_product n whole small short))
quotient_is (negsuc k) whole some short small = ap (λ n. neg_ℤ (pos n)) (quotient_by (suc k) whole some (small_product (suc k) whole small short))

pub quotient_small : (n whole : ℕ) → 0 < whole → whole < 65536 → n ≤ 32768 * whole → n * inverse_of whole / 140737488355328 ≤ 32768
quotient_small n whole some short small =
    let below = div_below n whole 32769 some (omega (arith, small, some)) in
    let is = quotient_by n whole some (small_product n whole small short) in
    omega (arith, below, is)

-- the product with the inverse
pub product_fits : (n whole : ℕ) → 0 < whole → whole < 65536 → n ≤ 32768 * whole → n * inverse_of whole < 18446744073709551616
product_fits n whole some short small =
    let q = 140737488355328 / whole in
    let e : q * whole + 140737488355328 % whole ≡ 140737488355328 = div-add-mod' 140737488355328 whole in
    let p : n * (q + 1) ≤ (32768 * whole) * (q + 1) = mul-le-mul_right (q + 1) small in
    omega (arith, e, p, short)

pub quotient_faded : (q s a b : ℤ) (at whole : ℕ) → q ≡ int_div (to_z w32 (of_z w32 s)) (pos whole) → s ≡ sum_of a b at whole →
    FitsSigned w16 a → FitsSigned w16 b → at < whole → whole < 65536 → to_z w32 (of_z w32 q) ≡ faded a b at whole
quotient_faded q s a b at whole is_q is_s fit_a fit_b less short =
    let fits = faded_fits a b at whole fit_a fit_b less in
    let wide : FitsSigned w32 (faded a b at whole) = omega (arith, ints, fits) in
    let q_is : q ≡ faded a b at whole =
    is_q ∙ ap (λ z. int_div (to_z w32 (of_z w32 z)) (pos whole)) is_s ∙ ap (λ z. int_div z (pos whole)) (to_z-of_z w32 (sum_of a b at whole) (sum_fits a b at whole fit_a fit_b less short)) in
    ap (λ z. to_z w32 (of_z w32 z)) q_is ∙ to_z-of_z w32 (faded a b at whole) wide
