-- Eight samples times a factor of up to 32768 units: what the vectors hold.
use Rattle.std.proofs.Common.{◌≡◌, ◌<◌, ◌≤◌, ◌*◌, ◌%◌, ◌∙◌, ℕ, zero, suc, ℤ, pos, negsuc, ◌*ℤ◌, List, [], ◌∷◌, length, map, arith, ap, sym, subst, refl, w16, w32, w64, to_z, of_z, FitsSigned, mul-le-mul}
use Rattle.std.specs.Prelude.{int_div, unsigned_abs, replicate}
use Rattle.std.specs.Simd.Lanes.{zip2, Each1, Each2}
use Rattle.std.proofs.lemmas.Int.{ints, to_z-of_z, of_z-to_z, wrapping_mul_is, int_wrap_fits, unsigned_abs-mul, fits_signed_mul}
use Rattle.std.proofs.lemmas.List.{length-map}
use borrow.Rule.Simd.Lanes.{act1, Asks1, Asks2}
use borrow.Table.Row.{s_int}
use mir.Syntax.{div, cast, signed}
use Rattle.sample_kernels.specs.Samples.{clamped}
use Rattle.sample_kernels.proofs.Bounds.{small_abs}
use Rattle.sample_kernels.proofs.Lanes.{cut_lanes, raised_lanes, clamped_lanes}
use Rattle.sample_kernels.proofs.Products.{quotient_of}
use Rattle.sample_kernels.proofs.LongMixes.{multiplied_long, divided_long, widened_long, widened_long_is, long_fits}

abbrev pub shortened : ℕ → ℕ
shortened = act1 (cast signed signed w32) (s_int w64) (s_int w32)

-- ---- a factor that is in range
pub record IsFactor (m : ℤ) : Type 0 where
  pub fits : FitsSigned w64 m
  pub small : unsigned_abs m ≤ 32768000000

-- ---- one lane
product_fits : (x m : ℤ) → FitsSigned w16 x → IsFactor m → FitsSigned w64 (x *ℤ m)
product_fits x m fit is = fits_signed_mul w64 x m 32768 32768000000 (small_abs x fit) is.small (omega arith)

one_product : (x m : ℤ) → FitsSigned w16 x → IsFactor m → multiplied_long (of_z w64 x) (of_z w64 m) ≡ of_z w64 (x *ℤ m)
one_product x m fit is =
    let bits : (of_z w64 x * of_z w64 m) % 18446744073709551616 < 18446744073709551616 = omega arith in
    sym (of_z-to_z w64 ((of_z w64 x * of_z w64 m) % 18446744073709551616) bits)
    ∙ ap (of_z w64) (wrapping_mul_is w64 x m (long_fits x fit) is.fits ∙ int_wrap_fits w64 (x *ℤ m) (product_fits x m fit is))

one_read : (x m : ℤ) → FitsSigned w16 x → IsFactor m → int_div (to_z w64 (multiplied_long (of_z w64 x) (of_z w64 m))) (pos 1000000) ≡ quotient_of m x
one_read x m fit is =
    ap (λ p. int_div (to_z w64 p) (pos 1000000)) (one_product x m fit is)
    ∙ ap (λ p. int_div p (pos 1000000)) (to_z-of_z w64 (x *ℤ m) (product_fits x m fit is))

divided_fits : (z : ℤ) → unsigned_abs z ≤ 1073741824000000 → FitsSigned w32 (int_div z (pos 1000000))
divided_fits (pos k) small = omega (arith, ints, small)
divided_fits (negsuc k) small = omega (arith, ints, small)

quotient_fits : (x m : ℤ) → FitsSigned w16 x → IsFactor m → FitsSigned w32 (quotient_of m x)
quotient_fits x m fit is =
    let p : unsigned_abs x * unsigned_abs m ≤ 32768 * 32768000000 = mul-le-mul (small_abs x fit) is.small in
    divided_fits (x *ℤ m) (rw (unsigned_abs-mul x m) p)

longer : (q : ℤ) → FitsSigned w32 q → FitsSigned w64 q
longer q fits = omega (arith, ints, fits)

-- ---- eight lanes
abbrev pub product_lanes : ℕ → List ℕ → ℕ → List ℕ
product_lanes n vs m = zip2 multiplied_long vs (replicate n m)

quotients_are : (xs : List ℤ) (n : ℕ) (m : ℤ) → length xs ≡ n → Each1 (FitsSigned w16) xs → IsFactor m →
    zip2 divided_long (product_lanes n (map (of_z w64) xs) (of_z w64 m)) (replicate n 1000000) ≡ map (of_z w64) (map (quotient_of m) xs)
quotients_are [] n m long fit is = refl
quotients_are (x ∷ xs) zero m long fit is = absurd (omega (arith, long))
quotients_are (x ∷ xs) (suc n) m long fit is =
    ap (λ q. of_z w64 q ∷ zip2 divided_long (product_lanes n (map (of_z w64) xs) (of_z w64 m)) (replicate n 1000000)) (one_read x m fit.0 is)
    ∙ ap (λ l. of_z w64 (quotient_of m x) ∷ l) (quotients_are xs n m (omega (arith, long)) fit.1 is)

divisions_are_asked : (xs : List ℤ) (n : ℕ) (m : ℤ) → length xs ≡ n → Each1 (FitsSigned w16) xs → IsFactor m →
    Each2 (Asks2 (div signed) (s_int w64) (s_int w64)) (product_lanes n (map (of_z w64) xs) (of_z w64 m)) (replicate n 1000000)
divisions_are_asked [] n m long fit is = tt
divisions_are_asked (x ∷ xs) zero m long fit is = absurd (omega (arith, long))
divisions_are_asked (x ∷ xs) (suc n) m long fit is =
    let fits = subst (FitsSigned w64) (sym (one_read x m fit.0 is)) (longer (quotient_of m x) (quotient_fits x m fit.0 is)) in
    ((omega arith, fits), divisions_are_asked xs n m (omega (arith, long)) fit.1 is)

shorter_asked : (qs : List ℤ) → Each1 (FitsSigned w32) qs → Each1 (Asks1 (cast signed signed w32) (s_int w64)) (map (of_z w64) qs)
shorter_asked [] fit = tt
shorter_asked (q ∷ qs) fit =
    let is : FitsSigned w32 (to_z w64 (of_z w64 q)) = rw (to_z-of_z w64 q (longer q fit.0)) fit.0 in
    (is, shorter_asked qs fit.1)

shortened_is : (qs : List ℤ) → Each1 (FitsSigned w32) qs → map shortened (map (of_z w64) qs) ≡ map (of_z w32) qs
shortened_is [] fit = refl
shortened_is (q ∷ qs) fit =
    ap (λ y. of_z w32 y ∷ map shortened (map (of_z w64) qs)) (to_z-of_z w64 q (longer q fit.0)) ∙ ap (λ l. of_z w32 q ∷ l) (shortened_is qs fit.1)

all_fit : (xs : List ℤ) (m : ℤ) → Each1 (FitsSigned w16) xs → IsFactor m → Each1 (FitsSigned w32) (map (quotient_of m) xs)
all_fit [] m fit is = tt
all_fit (x ∷ xs) m fit is = (quotient_fits x m fit.0 is, all_fit xs m fit.1 is)

-- ---- what the vectors of eight samples make
abbrev pub eight_products : List ℤ → ℤ → List ℕ
eight_products xs m = product_lanes 8 (map widened_long (map (of_z w16) xs)) (of_z w64 m)

pub eight_divisions_asked : (xs : List ℤ) (m : ℤ) → length xs ≡ 8 → Each1 (FitsSigned w16) xs → IsFactor m →
    Each2 (Asks2 (div signed) (s_int w64) (s_int w64)) (eight_products xs m) (replicate 8 1000000)
eight_divisions_asked xs m long fit is =
    subst (λ l. Each2 (Asks2 (div signed) (s_int w64) (s_int w64)) (product_lanes 8 l (of_z w64 m)) (replicate 8 1000000)) (sym (widened_long_is xs fit))
    (divisions_are_asked xs 8 m long fit is)

eight_quotients : (xs : List ℤ) (m : ℤ) → length xs ≡ 8 → Each1 (FitsSigned w16) xs → IsFactor m →
    zip2 divided_long (eight_products xs m) (replicate 8 1000000) ≡ map (of_z w64) (map (quotient_of m) xs)
eight_quotients xs m long fit is =
    ap (λ l. zip2 divided_long (product_lanes 8 l (of_z w64 m)) (replicate 8 1000000)) (widened_long_is xs fit) ∙ quotients_are xs 8 m long fit is

pub eight_shorter_asked : (xs : List ℤ) (m : ℤ) → length xs ≡ 8 → Each1 (FitsSigned w16) xs → IsFactor m →
    Each1 (Asks1 (cast signed signed w32) (s_int w64)) (zip2 divided_long (eight_products xs m) (replicate 8 1000000))
eight_shorter_asked xs m long fit is =
    subst (Each1 (Asks1 (cast signed signed w32) (s_int w64))) (sym (eight_quotients xs m long fit is)) (shorter_asked (map (quotient_of m) xs) (all_fit xs m fit is))

pub eight_cut : (xs : List ℤ) (m : ℤ) → length xs ≡ 8 → Each1 (FitsSigned w16) xs → IsFactor m →
    cut_lanes (raised_lanes (map shortened (zip2 divided_long (eight_products xs m) (replicate 8 1000000))) (replicate 8 4294934528)) (replicate 8 32767)
    ≡ map (of_z w32) (map clamped (map (quotient_of m) xs))
eight_cut xs m long fit is =
    ap (λ l. cut_lanes (raised_lanes (map shortened l) (replicate 8 4294934528)) (replicate 8 32767)) (eight_quotients xs m long fit is)
    ∙ ap (λ l. cut_lanes (raised_lanes l (replicate 8 4294934528)) (replicate 8 32767)) (shortened_is (map (quotient_of m) xs) (all_fit xs m fit is))
    ∙ clamped_lanes (map (quotient_of m) xs) 8 (length-map xs (quotient_of m) ∙ long) (all_fit xs m fit is)
