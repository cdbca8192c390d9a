-- Eight sums of a short mix: what the vectors hold.
use Rattle.std.proofs.Common.{◌≡◌, ◌<◌, ◌≤◌, ◌+◌, ◌*◌, ◌-◌, ◌∙◌, ℕ, zero, suc, ℤ, pos, ◌*ℤ◌, List, [], ◌∷◌, length, map, arith, ap, refl, w16, w32, to_z, of_z, FitsSigned}
use Rattle.std.specs.Prelude.{int_div, unsigned_abs, replicate}
use Rattle.std.specs.Simd.Lanes.{zip2, Each1}
use Rattle.std.proofs.lemmas.Int.{ints}
use lib.IntN.{◌-ℤ◌}
use Rattle.sample_kernels.specs.Mixing.{mixed}
use Rattle.sample_kernels.proofs.Bounds.{faded_fits}
use Rattle.sample_kernels.proofs.Inverses.{sum_of, sum_fits, sum_small, weighted_fits}
use Rattle.sample_kernels.proofs.Lanes.{added, one_added, widened, widened_is, back}
use Rattle.sample_kernels.proofs.Products.{multiplied, subtracted, one_multiplied, one_subtracted, sample_wide}

-- so many numbers from one on
abbrev pub counted : ℕ → ℕ → List ℕ
counted zero at = []
counted (suc n) at = at ∷ counted n (suc at)

abbrev pub sums_of : List ℤ → List ℤ → ℕ → ℕ → List ℤ
sums_of [] to at whole = []
sums_of (a ∷ from) [] at whole = []
sums_of (a ∷ from) (b ∷ to) at whole = sum_of a b at whole ∷ sums_of from to (suc at) whole

rising_lanes : (at : ℕ) → at + 8 ≤ 65536 → zip2 added (replicate 8 at) (0 ∷ 1 ∷ 2 ∷ 3 ∷ 4 ∷ 5 ∷ 6 ∷ 7 ∷ []) ≡ counted 8 at
rising_lanes at small =
    let e0 : added at 0 ≡ at = omega (arith, small) in
    let e1 : added at 1 ≡ suc at = omega (arith, small) in
    let e2 : added at 2 ≡ suc (suc at) = omega (arith, small) in
    let e3 : added at 3 ≡ suc (suc (suc at)) = omega (arith, small) in
    let e4 : added at 4 ≡ suc (suc (suc (suc at))) = omega (arith, small) in
    let e5 : added at 5 ≡ suc (suc (suc (suc (suc at)))) = omega (arith, small) in
    let e6 : added at 6 ≡ suc (suc (suc (suc (suc (suc at))))) = omega (arith, small) in
    let e7 : added at 7 ≡ suc (suc (suc (suc (suc (suc (suc at)))))) = omega (arith, small) in
    λ i. e0 i ∷ e1 i ∷ e2 i ∷ e3 i ∷ e4 i ∷ e5 i ∷ e6 i ∷ e7 i ∷ []

-- ---- one lane
falling_is : (at whole : ℕ) → at < whole → whole < 65536 → subtracted whole at ≡ whole - at
falling_is at whole less short =
    let fits : FitsSigned w32 (pos whole) = omega (arith, ints, short) in
    let fits_at : FitsSigned w32 (pos at) = omega (arith, ints, less, short) in
    let is : pos whole -ℤ pos at ≡ pos (whole - at) = omega (arith, ints, less) in
    let fits_rest : FitsSigned w32 (pos (whole - at)) = omega (arith, ints, short) in
    one_subtracted (pos whole) (pos at) fits fits_at (rw is fits_rest) ∙ ap (of_z w32) is

weighted_is : (a : ℤ) (times : ℕ) → FitsSigned w16 a → times < 65536 → multiplied (of_z w32 a) times ≡ of_z w32 (a *ℤ pos times)
weighted_is a times fits small =
    let fits_times : FitsSigned w32 (pos times) = omega (arith, ints, small) in
    one_multiplied a (pos times) (sample_wide a fits) fits_times (weighted_fits a times fits small)

abbrev pub sum_lane : ℕ → ℕ → ℕ → ℕ → ℕ
sum_lane x y at whole = added (multiplied x (subtracted whole at)) (multiplied y at)

pub one_sum : (a b : ℤ) (at whole : ℕ) → FitsSigned w16 a → FitsSigned w16 b → at < whole → whole < 65536 →
    sum_lane (of_z w32 a) (of_z w32 b) at whole ≡ of_z w32 (sum_of a b at whole)
one_sum a b at whole fit_a fit_b less short =
    let small : whole - at < 65536 = omega (arith, short) in
    let small_at : at < 65536 = omega (arith, less, short) in
    let from : multiplied (of_z w32 a) (subtracted whole at) ≡ of_z w32 (a *ℤ pos (whole - at)) =
    ap (multiplied (of_z w32 a)) (falling_is at whole less short) ∙ weighted_is a (whole - at) fit_a small in
    ap (λ p. added p (multiplied (of_z w32 b) at)) from
    ∙ ap (added (of_z w32 (a *ℤ pos (whole - at)))) (weighted_is b at fit_b small_at)
    ∙ one_added (a *ℤ pos (whole - at)) (b *ℤ pos at) (weighted_fits a (whole - at) fit_a small) (weighted_fits b at fit_b small_at) (sum_fits a b at whole fit_a fit_b less short)

-- ---- eight lanes
abbrev pub sum_lanes : ℕ → List ℕ → List ℕ → List ℕ → ℕ → List ℕ
sum_lanes n xs ys rising whole = zip2 added (zip2 multiplied xs (zip2 subtracted (replicate n whole) rising)) (zip2 multiplied ys rising)

sums_are : (from to : List ℤ) (n at whole : ℕ) → length from ≡ n → length to ≡ n → Each1 (FitsSigned w16) from → Each1 (FitsSigned w16) to → at + n ≤ whole → whole < 65536 →
    sum_lanes n (map (of_z w32) from) (map (of_z w32) to) (counted n at) whole ≡ map (of_z w32) (sums_of from to at whole)
sums_are [] to zero at whole long_from long_to f g within short = refl
sums_are [] to (suc n) at whole long_from long_to f g within short = absurd (omega (arith, long_from))
sums_are (a ∷ from) to zero at whole long_from long_to f g within short = absurd (omega (arith, long_from))
sums_are (a ∷ from) [] (suc n) at whole long_from long_to f g within short = absurd (omega (arith, long_to))
sums_are (a ∷ from) (b ∷ to) (suc n) at whole long_from long_to f g within short =
    ap (λ s. s ∷ sum_lanes n (map (of_z w32) from) (map (of_z w32) to) (counted n (suc at)) whole) (one_sum a b at whole f.0 g.0 (omega (arith, within)) short)
    ∙ ap (λ l. of_z w32 (sum_of a b at whole) ∷ l) (sums_are from to n (suc at) whole (omega (arith, long_from)) (omega (arith, long_to)) f.1 g.1 (omega (arith, within)) short)

-- ---- the sums, and what they leave
pub length-sums : (from to : List ℤ) (at whole : ℕ) → length to ≡ length from → length (sums_of from to at whole) ≡ length from
length-sums [] to at whole same = refl
length-sums (a ∷ from) [] at whole same = absurd (omega (arith, same))
length-sums (a ∷ from) (b ∷ to) at whole same = ap suc (length-sums from to (suc at) whole (omega (arith, same)))

sums_fit : (from to : List ℤ) (n at whole : ℕ) → length from ≡ n → Each1 (FitsSigned w16) from → Each1 (FitsSigned w16) to → at + n ≤ whole → whole < 65536 →
    Each1 (FitsSigned w32) (sums_of from to at whole)
sums_fit [] to n at whole long f g within short = tt
sums_fit (a ∷ from) [] n at whole long f g within short = tt
sums_fit (a ∷ from) (b ∷ to) zero at whole long f g within short = absurd (omega (arith, long))
sums_fit (a ∷ from) (b ∷ to) (suc n) at whole long f g within short =
    (sum_fits a b at whole f.0 g.0 (omega (arith, within)) short, sums_fit from to n (suc at) whole (omega (arith, long)) f.1 g.1 (omega (arith, within)) short)

-- what the vectors of eight samples make
abbrev pub eight_lanes : List ℤ → List ℤ → ℕ → ℕ → List ℕ
eight_lanes from to at whole =
    sum_lanes 8 (map widened (map (of_z w16) from)) (map widened (map (of_z w16) to)) (zip2 added (replicate 8 at) (0 ∷ 1 ∷ 2 ∷ 3 ∷ 4 ∷ 5 ∷ 6 ∷ 7 ∷ [])) whole

eight_sums : (from to : List ℤ) (at whole : ℕ) → length from ≡ 8 → length to ≡ 8 → Each1 (FitsSigned w16) from → Each1 (FitsSigned w16) to → at + 8 ≤ whole → whole < 65536 →
    eight_lanes from to at whole ≡ map (of_z w32) (sums_of from to at whole)
eight_sums from to at whole long_from long_to f g within short =
    let rising = zip2 added (replicate 8 at) (0 ∷ 1 ∷ 2 ∷ 3 ∷ 4 ∷ 5 ∷ 6 ∷ 7 ∷ []) in
    ap (λ l. sum_lanes 8 l (map widened (map (of_z w16) to)) rising whole) (widened_is from f)
    ∙ ap (λ l. sum_lanes 8 (map (of_z w32) from) l rising whole) (widened_is to g)
    ∙ ap (λ l. sum_lanes 8 (map (of_z w32) from) (map (of_z w32) to) l whole) (rising_lanes at (omega (arith, within, short)))
    ∙ sums_are from to 8 at whole long_from long_to f g within short

pub sums_read : (from to : List ℤ) (at whole : ℕ) → length from ≡ 8 → length to ≡ 8 → Each1 (FitsSigned w16) from → Each1 (FitsSigned w16) to → at + 8 ≤ whole → whole < 65536 →
    map (to_z w32) (eight_lanes from to at whole) ≡ sums_of from to at whole
sums_read from to at whole long_from long_to f g within short =
    ap (map (to_z w32)) (eight_sums from to at whole long_from long_to f g within short)
    ∙ back w32 (sums_of from to at whole) (sums_fit from to 8 at whole long_from f g within short)

pub sums_small : (from to : List ℤ) (n at whole : ℕ) → length from ≡ n → Each1 (FitsSigned w16) from → Each1 (FitsSigned w16) to → at + n ≤ whole →
    Each1 (λ sum. unsigned_abs sum ≤ 32768 * whole) (sums_of from to at whole)
sums_small [] to n at whole long f g within = tt
sums_small (a ∷ from) [] n at whole long f g within = tt
sums_small (a ∷ from) (b ∷ to) zero at whole long f g within = absurd (omega (arith, long))
sums_small (a ∷ from) (b ∷ to) (suc n) at whole long f g within =
    (sum_small a b at whole f.0 g.0 (omega (arith, within)), sums_small from to n (suc at) whole (omega (arith, long)) f.1 g.1 (omega (arith, within)))

pub quotients_mixed : (from to : List ℤ) (at whole : ℕ) → map (λ sum. int_div sum (pos whole)) (sums_of from to at whole) ≡ mixed from to at whole
quotients_mixed [] to at whole = refl
quotients_mixed (a ∷ from) [] at whole = refl
quotients_mixed (a ∷ from) (b ∷ to) at whole = ap (λ l. int_div (sum_of a b at whole) (pos whole) ∷ l) (quotients_mixed from to (suc at) whole)

pub mixed_fit : (from to : List ℤ) (n at whole : ℕ) → length from ≡ n → Each1 (FitsSigned w16) from → Each1 (FitsSigned w16) to → at + n ≤ whole →
    Each1 (FitsSigned w16) (mixed from to at whole)
mixed_fit [] to n at whole long f g within = tt
mixed_fit (a ∷ from) [] n at whole long f g within = tt
mixed_fit (a ∷ from) (b ∷ to) zero at whole long f g within = absurd (omega (arith, long))
mixed_fit (a ∷ from) (b ∷ to) (suc n) at whole long f g within =
    (faded_fits a b at whole f.0 g.0 (omega (arith, within)), mixed_fit from to n (suc at) whole (omega (arith, long)) f.1 g.1 (omega (arith, within)))
