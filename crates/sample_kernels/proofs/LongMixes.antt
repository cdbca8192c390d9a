-- Eight samples of a mix of any length: what the vectors hold.
use Rattle.std.proofs.Common.{◌≡◌, ◌<◌, ◌≤◌, ◌+◌, ◌*◌, ◌-◌, ◌%◌, ◌∙◌, ℕ, zero, suc, ℤ, pos, ◌+ℤ◌, ◌*ℤ◌, List, [], ◌∷◌, length, map, arith, ap, sym, subst, refl, w16, w64, to_z, of_z, FitsSigned}
use Rattle.std.specs.Prelude.{int_div, replicate}
use Rattle.std.specs.Simd.Lanes.{zip2, Each1, Each2}
use Rattle.std.proofs.lemmas.Int.{ints, to_z-of_z, of_z-to_z, to_z_pos, wrapping_mul_is, int_wrap_fits}
use borrow.Rule.Simd.Lanes.{act1, act2, Asks1, Asks2}
use borrow.Table.Row.{s_int}
use mir.Syntax.{wrap_add, wrap_sub, wrap_mul, div, cast, signed}
use Rattle.sample_kernels.specs.Mixing.{faded, mixed}
use Rattle.sample_kernels.proofs.Bounds.{product_fits, sum_bounds, faded_fits}
use Rattle.sample_kernels.proofs.Inverses.{sum_of}
use Rattle.sample_kernels.proofs.MixedSums.{counted}

abbrev pub widened_long : ℕ → ℕ
widened_long = act1 (cast signed signed w64) (s_int w16) (s_int w64)

abbrev pub narrowed_long : ℕ → ℕ
narrowed_long = act1 (cast signed signed w16) (s_int w64) (s_int w16)

abbrev pub added_long : ℕ → ℕ → ℕ
added_long = act2 wrap_add (s_int w64) (s_int w64) (s_int w64)

abbrev pub subtracted_long : ℕ → ℕ → ℕ
subtracted_long = act2 wrap_sub (s_int w64) (s_int w64) (s_int w64)

abbrev pub multiplied_long : ℕ → ℕ → ℕ
multiplied_long = act2 wrap_mul (s_int w64) (s_int w64) (s_int w64)

abbrev pub divided_long : ℕ → ℕ → ℕ
divided_long = act2 (div signed) (s_int w64) (s_int w64) (s_int w64)

-- ---- one lane
pub long_fits : (a : ℤ) → FitsSigned w16 a → FitsSigned w64 a
long_fits a fits = omega (arith, ints, fits)

rising_long : (at : ℕ) → at + 8 ≤ 4294967296 → zip2 added_long (replicate 8 at) (0 ∷ 1 ∷ 2 ∷ 3 ∷ 4 ∷ 5 ∷ 6 ∷ 7 ∷ []) ≡ counted 8 at
rising_long at small =
    let e0 : added_long at 0 ≡ at = omega (arith, small) in
    let e1 : added_long at 1 ≡ suc at = omega (arith, small) in
    let e2 : added_long at 2 ≡ suc (suc at) = omega (arith, small) in
    let e3 : added_long at 3 ≡ suc (suc (suc at)) = omega (arith, small) in
    let e4 : added_long at 4 ≡ suc (suc (suc (suc at))) = omega (arith, small) in
    let e5 : added_long at 5 ≡ suc (suc (suc (suc (suc at)))) = omega (arith, small) in
    let e6 : added_long at 6 ≡ suc (suc (suc (suc (suc (suc at))))) = omega (arith, small) in
    let e7 : added_long at 7 ≡ suc (suc (suc (suc (suc (suc (suc at)))))) = omega (arith, small) in
    λ i. e0 i ∷ e1 i ∷ e2 i ∷ e3 i ∷ e4 i ∷ e5 i ∷ e6 i ∷ e7 i ∷ []

falling_long : (at whole : ℕ) → at < whole → whole < 4294967296 → subtracted_long whole at ≡ whole - at
falling_long at whole less small = omega (arith, less, small)

weighted_long : (a : ℤ) (times : ℕ) → FitsSigned w16 a → times < 4294967296 → multiplied_long (of_z w64 a) times ≡ of_z w64 (a *ℤ pos times)
weighted_long a times fits small =
    let bits : (of_z w64 a * times) % 18446744073709551616 < 18446744073709551616 = omega arith in
    let fits_times : FitsSigned w64 (pos times) = omega (arith, ints, small) in
    sym (of_z-to_z w64 ((of_z w64 a * times) % 18446744073709551616) bits)
    ∙ ap (of_z w64) (wrapping_mul_is w64 a (pos times) (long_fits a fits) fits_times ∙ int_wrap_fits w64 (a *ℤ pos times) (product_fits a times fits small))

added_long_is : (x y : ℤ) → FitsSigned w64 x → FitsSigned w64 y → FitsSigned w64 (x +ℤ y) → added_long (of_z w64 x) (of_z w64 y) ≡ of_z w64 (x +ℤ y)
added_long_is x y f g fits = omega (arith, ints, f, g, fits)

sum_fits_long : (a b : ℤ) (at whole : ℕ) → FitsSigned w16 a → FitsSigned w16 b → at < whole → whole < 4294967296 → FitsSigned w64 (sum_of a b at whole)
sum_fits_long a b at whole fit_a fit_b less small =
    let bounds = sum_bounds a b at whole fit_a fit_b less in
    omega (arith, ints, bounds.0, bounds.1, small)

abbrev pub long_lane : ℕ → ℕ → ℕ → ℕ → ℕ
long_lane x y at whole = added_long (multiplied_long x (subtracted_long whole at)) (multiplied_long y at)

one_long : (a b : ℤ) (at whole : ℕ) → FitsSigned w16 a → FitsSigned w16 b → at < whole → whole < 4294967296 →
    long_lane (of_z w64 a) (of_z w64 b) at whole ≡ of_z w64 (sum_of a b at whole)
one_long a b at whole fit_a fit_b less small =
    let small_rest : whole - at < 4294967296 = omega (arith, small) in
    let small_at : at < 4294967296 = omega (arith, less, small) in
    let from : multiplied_long (of_z w64 a) (subtracted_long whole at) ≡ of_z w64 (a *ℤ pos (whole - at)) =
    ap (multiplied_long (of_z w64 a)) (falling_long at whole less small) ∙ weighted_long a (whole - at) fit_a small_rest in
    ap (λ p. added_long p (multiplied_long (of_z w64 b) at)) from
    ∙ ap (added_long (of_z w64 (a *ℤ pos (whole - at)))) (weighted_long b at fit_b small_at)
    ∙ added_long_is (a *ℤ pos (whole - at)) (b *ℤ pos at) (product_fits a (whole - at) fit_a small_rest) (product_fits b at fit_b small_at) (sum_fits_long a b at whole fit_a fit_b less small)

long_quotient_fits : (a b : ℤ) (at whole : ℕ) → FitsSigned w16 a → FitsSigned w16 b → at < whole → FitsSigned w64 (faded a b at whole)
long_quotient_fits a b at whole fit_a fit_b less = long_fits (faded a b at whole) (faded_fits a b at whole fit_a fit_b less)

lane_read : (a b : ℤ) (at whole : ℕ) → FitsSigned w16 a → FitsSigned w16 b → at < whole → whole < 4294967296 →
    int_div (to_z w64 (long_lane (of_z w64 a) (of_z w64 b) at whole)) (to_z w64 whole) ≡ faded a b at whole
lane_read a b at whole fit_a fit_b less small =
    ap (λ s. int_div (to_z w64 s) (to_z w64 whole)) (one_long a b at whole fit_a fit_b less small)
    ∙ ap (λ s. int_div s (to_z w64 whole)) (to_z-of_z w64 (sum_of a b at whole) (sum_fits_long a b at whole fit_a fit_b less small))
    ∙ ap (int_div (sum_of a b at whole)) (to_z_pos w64 whole (omega (arith, small)))

-- ---- eight lanes
abbrev pub long_lanes : ℕ → List ℕ → List ℕ → List ℕ → ℕ → List ℕ
long_lanes n xs ys rising whole = zip2 added_long (zip2 multiplied_long xs (zip2 subtracted_long (replicate n whole) rising)) (zip2 multiplied_long ys rising)

quotients_long : (from to : List ℤ) (n at whole : ℕ) → length from ≡ n → length to ≡ n → Each1 (FitsSigned w16) from → Each1 (FitsSigned w16) to → at + n ≤ whole → whole < 4294967296 →
    zip2 divided_long (long_lanes n (map (of_z w64) from) (map (of_z w64) to) (counted n at) whole) (replicate n whole) ≡ map (of_z w64) (mixed from to at whole)
quotients_long [] to zero at whole long_from long_to f g within small = refl
quotients_long [] to (suc n) at whole long_from long_to f g within small = absurd (omega (arith, long_from))
quotients_long (a ∷ from) to zero at whole long_from long_to f g within small = absurd (omega (arith, long_from))
quotients_long (a ∷ from) [] (suc n) at whole long_from long_to f g within small = absurd (omega (arith, long_to))
quotients_long (a ∷ from) (b ∷ to) (suc n) at whole long_from long_to f g within small =
    ap (λ q. of_z w64 q ∷ zip2 divided_long (long_lanes n (map (of_z w64) from) (map (of_z w64) to) (counted n (suc at)) whole) (replicate n whole))
    (lane_read a b at whole f.0 g.0 (omega (arith, within)) small)
    ∙ ap (λ l. of_z w64 (faded a b at whole) ∷ l) (quotients_long from to n (suc at) whole (omega (arith, long_from)) (omega (arith, long_to)) f.1 g.1 (omega (arith, within)) small)

divisions_asked : (from to : List ℤ) (n at whole : ℕ) → length from ≡ n → length to ≡ n → Each1 (FitsSigned w16) from → Each1 (FitsSigned w16) to → at + n ≤ whole → whole < 4294967296 →
    Each2 (Asks2 (div signed) (s_int w64) (s_int w64)) (long_lanes n (map (of_z w64) from) (map (of_z w64) to) (counted n at) whole) (replicate n whole)
divisions_asked [] to zero at whole long_from long_to f g within small = tt
divisions_asked [] to (suc n) at whole long_from long_to f g within small = absurd (omega (arith, long_from))
divisions_asked (a ∷ from) to zero at whole long_from long_to f g within small = absurd (omega (arith, long_from))
divisions_asked (a ∷ from) [] (suc n) at whole long_from long_to f g within small = absurd (omega (arith, long_to))
divisions_asked (a ∷ from) (b ∷ to) (suc n) at whole long_from long_to f g within small =
    let some : 0 < whole = omega (arith, within) in
    let fits = subst (FitsSigned w64) (sym (lane_read a b at whole f.0 g.0 (omega (arith, within)) small)) (long_quotient_fits a b at whole f.0 g.0 (omega (arith, within))) in
    ((some, fits), divisions_asked from to n (suc at) whole (omega (arith, long_from)) (omega (arith, long_to)) f.1 g.1 (omega (arith, within)) small)

-- ---- wider and narrower lanes
pub long_asked : (xs : List ℤ) → Each1 (FitsSigned w16) xs → Each1 (Asks1 (cast signed signed w64) (s_int w16)) (map (of_z w16) xs)
long_asked [] fit = tt
long_asked (x ∷ xs) fit =
    let is : FitsSigned w64 (to_z w16 (of_z w16 x)) = rw (to_z-of_z w16 x fit.0) (long_fits x fit.0) in
    (is, long_asked xs fit.1)

pub widened_long_is : (xs : List ℤ) → Each1 (FitsSigned w16) xs → map widened_long (map (of_z w16) xs) ≡ map (of_z w64) xs
widened_long_is [] fit = refl
widened_long_is (x ∷ xs) fit =
    ap (λ y. of_z w64 y ∷ map widened_long (map (of_z w16) xs)) (to_z-of_z w16 x fit.0) ∙ ap (λ l. of_z w64 x ∷ l) (widened_long_is xs fit.1)

pub narrow_long_asked : (xs : List ℤ) → Each1 (FitsSigned w16) xs → Each1 (Asks1 (cast signed signed w16) (s_int w64)) (map (of_z w64) xs)
narrow_long_asked [] fit = tt
narrow_long_asked (x ∷ xs) fit =
    let is : FitsSigned w16 (to_z w64 (of_z w64 x)) = rw (to_z-of_z w64 x (long_fits x fit.0)) fit.0 in
    (is, narrow_long_asked xs fit.1)

pub narrowed_long_is : (xs : List ℤ) → Each1 (FitsSigned w16) xs → map (to_z w16) (map narrowed_long (map (of_z w64) xs)) ≡ xs
narrowed_long_is [] fit = refl
narrowed_long_is (x ∷ xs) fit =
    ap (λ y. to_z w16 (of_z w16 y) ∷ map (to_z w16) (map narrowed_long (map (of_z w64) xs))) (to_z-of_z w64 x (long_fits x fit.0))
    ∙ ap (λ y. y ∷ map (to_z w16) (map narrowed_long (map (of_z w64) xs))) (to_z-of_z w16 x fit.0)
    ∙ ap (λ l. x ∷ l) (narrowed_long_is xs fit.1)

-- ---- what the vectors of eight samples make
abbrev pub eight_long : List ℤ → List ℤ → ℕ → ℕ → List ℕ
eight_long from to at whole =
    long_lanes 8 (map widened_long (map (of_z w16) from)) (map widened_long (map (of_z w16) to)) (zip2 added_long (replicate 8 at) (0 ∷ 1 ∷ 2 ∷ 3 ∷ 4 ∷ 5 ∷ 6 ∷ 7 ∷ [])) whole

eight_long_is : (from to : List ℤ) (at whole : ℕ) → Each1 (FitsSigned w16) from → Each1 (FitsSigned w16) to → at + 8 ≤ 4294967296 →
    eight_long from to at whole ≡ long_lanes 8 (map (of_z w64) from) (map (of_z w64) to) (counted 8 at) whole
eight_long_is from to at whole f g small =
    let rising = zip2 added_long (replicate 8 at) (0 ∷ 1 ∷ 2 ∷ 3 ∷ 4 ∷ 5 ∷ 6 ∷ 7 ∷ []) in
    ap (λ l. long_lanes 8 l (map widened_long (map (of_z w16) to)) rising whole) (widened_long_is from f)
    ∙ ap (λ l. long_lanes 8 (map (of_z w64) from) l rising whole) (widened_long_is to g)
    ∙ ap (λ l. long_lanes 8 (map (of_z w64) from) (map (of_z w64) to) l whole) (rising_long at small)

pub eight_asked : (from to : List ℤ) (at whole : ℕ) → length from ≡ 8 → length to ≡ 8 → Each1 (FitsSigned w16) from → Each1 (FitsSigned w16) to → at + 8 ≤ whole → whole < 4294967296 →
    Each2 (Asks2 (div signed) (s_int w64) (s_int w64)) (eight_long from to at whole) (replicate 8 whole)
eight_asked from to at whole long_from long_to f g within small =
    subst (λ l. Each2 (Asks2 (div signed) (s_int w64) (s_int w64)) l (replicate 8 whole)) (sym (eight_long_is from to at whole f g (omega (arith, within, small))))
    (divisions_asked from to 8 at whole long_from long_to f g within small)

pub eight_mixed : (from to : List ℤ) (at whole : ℕ) → length from ≡ 8 → length to ≡ 8 → Each1 (FitsSigned w16) from → Each1 (FitsSigned w16) to → at + 8 ≤ whole → whole < 4294967296 →
    zip2 divided_long (eight_long from to at whole) (replicate 8 whole) ≡ map (of_z w64) (mixed from to at whole)
eight_mixed from to at whole long_from long_to f g within small =
    ap (λ l. zip2 divided_long l (replicate 8 whole)) (eight_long_is from to at whole f g (omega (arith, within, small)))
    ∙ quotients_long from to 8 at whole long_from long_to f g within small
