-- The mean of samples is a sample.
use Rattle.std.proofs.Common.{◌≡◌, ◌<◌, ◌+◌, ◌*◌, ◌∙◌, ℕ, ℤ, pos, ◌+ℤ◌, List, length, get_or, ap, sym, subst, arith, w16, w32, Fits, FitsSigned, to_z, of_z}
use Rattle.std.specs.Prelude.{int_div, All}
use Rattle.std.specs.Simd.Lanes.{zip2, Each1}
use Rattle.std.proofs.lemmas.Simd.{length-zip2, get_or-zip2, Each1-get_or}
use Rattle.std.proofs.lemmas.List.Elements.{All-get_or, All-from_get_or}
use Rattle.std.proofs.lemmas.Int.{quot_is, quot_fits, ints}
use Rattle.sample_kernels.specs.Samples.{IsSumOf}
use Rattle.sample_kernels.proofs.Bounds.{neg_parts, quotient}
use lib.Signed.{◌<ℤ◌}

pub mean_fits : (sum : ℤ) (parts : ℕ) → 0 < parts → IsSumOf parts sum → FitsSigned w16 (int_div sum (pos parts))
mean_fits sum parts some is =
    let parts_of = neg_parts (32768 * parts) in
    let low = is.low in
    let high = is.high in
    quotient sum parts some (omega (arith, ints, high)) (omega (arith, ints, low, parts_of.0, parts_of.1))

pub mean_computed : (sum d : ℤ) (parts : ℕ) → d ≡ pos parts → FitsSigned w32 sum → Fits w16 parts → 0 < parts → IsSumOf parts sum →
    to_z w32 (of_z w32 (int_div (to_z w32 (of_z w32 sum)) (to_z w32 (of_z w32 d)))) ≡ int_div sum (pos parts)
mean_computed sum d parts is_d fits small some is =
    let divisor : FitsSigned w32 (pos parts) = omega (arith, ints) in
    let above : pos 0 <ℤ pos parts = omega (arith, ints) in
    rw is_d (quot_is w32 sum (pos parts) fits divisor (quot_fits w32 sum (pos parts) fits above))

-- a sum that has room for one sample more
pub sum_fits : (sum part : ℤ) → IsSumOf 65535 sum → FitsSigned w16 part → FitsSigned w32 (sum +ℤ part)
sum_fits sum part is fits = let low = is.low in let high = is.high in omega (arith, ints, low, high, fits)

-- sums of so many samples, and one more each
one_counted : (parts : ℕ) (sum part : ℤ) → IsSumOf parts sum → FitsSigned w16 part → IsSumOf (parts + 1) (sum +ℤ part)
one_counted parts sum part is fits =
    let low = is.low in
    let high = is.high in
    record { low = omega (arith, ints, low, fits); high = omega (arith, ints, high, fits) }

pub more_counted : (parts : ℕ) (sums part new : List ℤ) → new ≡ zip2 ◌+ℤ◌ sums part → length part ≡ length sums → Each1 (FitsSigned w16) part →
    All (IsSumOf parts) sums → All (IsSumOf (parts + 1)) new
more_counted parts sums part new is same fit all =
    let long : length new ≡ length sums = ap length is ∙ length-zip2 ◌+ℤ◌ sums part (sym same) in
    All-from_get_or (IsSumOf (parts + 1)) new (pos 0)
    (λ k less.
    let here : get_or new k (pos 0) ≡ get_or sums k (pos 0) +ℤ get_or part k (pos 0) =
    ap (λ l. get_or l k (pos 0)) is ∙ get_or-zip2 ◌+ℤ◌ sums part k (pos 0) (pos 0) (pos 0) (omega (arith, less, long)) (omega (arith, less, long, same)) in
    subst (IsSumOf (parts + 1)) (sym here)
    (one_counted parts (get_or sums k (pos 0)) (get_or part k (pos 0)) (All-get_or (IsSumOf parts) sums k (pos 0) (omega (arith, less, long)) all)
    (Each1-get_or (FitsSigned w16) part k (pos 0) (omega (arith, less, long, same)) fit)))
