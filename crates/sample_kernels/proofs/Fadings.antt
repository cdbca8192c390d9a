-- Eight numbers between two samples each: what the vectors hold.
use Rattle.std.proofs.Common.{◌≡◌, ◌<◌, ◌≤◌, ◌*◌, ◌∙◌, ℕ, zero, suc, ℤ, pos, List, [], ◌∷◌, length, map, take, arith, ap, refl, w16, w32, to_z, of_z, FitsSigned}
use Rattle.std.specs.Prelude.{int_div, unsigned_abs}
use Rattle.std.specs.Simd.Lanes.{Each1}
use Rattle.sample_kernels.specs.Mixing.{faded_each}
use Rattle.sample_kernels.proofs.Bounds.{faded_fits}
use Rattle.sample_kernels.proofs.Inverses.{sum_of, sum_fits, sum_small}
use Rattle.sample_kernels.proofs.Lanes.{back, signed_of, widened, widened_is}
use Rattle.sample_kernels.proofs.MixedSums.{one_sum, sum_lanes}

pub taken_all : {A : Type 0} (n : ℕ) (xs : List A) → length xs ≡ n → take n xs ≡ xs
taken_all zero [] long = refl
taken_all zero (x ∷ xs) long = absurd (omega (arith, long))
taken_all (suc n) [] long = absurd (omega (arith, long))
taken_all (suc n) (x ∷ xs) long = ap (λ l. x ∷ l) (taken_all n xs (omega (arith, long)))

abbrev pub sums_each : List ℤ → List ℤ → List ℕ → ℕ → List ℤ
sums_each [] to at whole = []
sums_each (a ∷ from) [] at whole = []
sums_each (a ∷ from) (b ∷ to) [] whole = []
sums_each (a ∷ from) (b ∷ to) (k ∷ at) whole = sum_of a b k whole ∷ sums_each from to at whole

module _ (whole : ℕ) (short : whole < 65536) where
  sums_are : (from to : List ℤ) (at : List ℕ) (n : ℕ) → length from ≡ n → length to ≡ n → length at ≡ n → Each1 (FitsSigned w16) from → Each1 (FitsSigned w16) to
      → Each1 (λ k. k < whole) at → sum_lanes n (map (of_z w32) from) (map (of_z w32) to) (map signed_of at) whole ≡ map (of_z w32) (sums_each from to at whole)
  sums_are [] [] [] zero long_from long_to long_at f g less = refl
  sums_are [] to at (suc n) long_from long_to long_at f g less = absurd (omega (arith, long_from))
  sums_are [] (b ∷ to) at zero long_from long_to long_at f g less = absurd (omega (arith, long_to))
  sums_are [] [] (k ∷ at) zero long_from long_to long_at f g less = absurd (omega (arith, long_at))
  sums_are (a ∷ from) to at zero long_from long_to long_at f g less = absurd (omega (arith, long_from))
  sums_are (a ∷ from) [] at (suc n) long_from long_to long_at f g less = absurd (omega (arith, long_to))
  sums_are (a ∷ from) (b ∷ to) [] (suc n) long_from long_to long_at f g less = absurd (omega (arith, long_at))
  sums_are (a ∷ from) (b ∷ to) (k ∷ at) (suc n) long_from long_to long_at f g less =
      ap (λ s. s ∷ sum_lanes n (map (of_z w32) from) (map (of_z w32) to) (map signed_of at) whole) (one_sum a b k whole f.0 g.0 less.0 short)
      ∙ ap (λ l. of_z w32 (sum_of a b k whole) ∷ l) (sums_are from to at n (omega (arith, long_from)) (omega (arith, long_to)) (omega (arith, long_at)) f.1 g.1 less.1)

  sums_fit : (from to : List ℤ) (at : List ℕ) → Each1 (FitsSigned w16) from → Each1 (FitsSigned w16) to → Each1 (λ k. k < whole) at → Each1 (FitsSigned w32) (sums_each from to at whole)
  sums_fit [] to at f g less = tt
  sums_fit (a ∷ from) [] at f g less = tt
  sums_fit (a ∷ from) (b ∷ to) [] f g less = tt
  sums_fit (a ∷ from) (b ∷ to) (k ∷ at) f g less = (sum_fits a b k whole f.0 g.0 less.0 short, sums_fit from to at f.1 g.1 less.1)

  -- what the vectors of eight samples make
  pub sums_read : (from to : List ℤ) (at : List ℕ) → length from ≡ 8 → length to ≡ 8 → length at ≡ 8 → Each1 (FitsSigned w16) from → Each1 (FitsSigned w16) to → Each1 (λ k. k < whole) at
      → map (to_z w32) (sum_lanes 8 (map widened (map (of_z w16) from)) (map widened (map (of_z w16) to)) (map signed_of at) whole) ≡ sums_each from to at whole
  sums_read from to at long_from long_to long_at f g less =
      ap (λ l. map (to_z w32) (sum_lanes 8 l (map widened (map (of_z w16) to)) (map signed_of at) whole)) (widened_is from f)
      ∙ ap (λ l. map (to_z w32) (sum_lanes 8 (map (of_z w32) from) l (map signed_of at) whole)) (widened_is to g)
      ∙ ap (map (to_z w32)) (sums_are from to at 8 long_from long_to long_at f g less)
      ∙ back w32 (sums_each from to at whole) (sums_fit from to at f g less)

  pub length-sums : (from to : List ℤ) (at : List ℕ) (n : ℕ) → length from ≡ n → length to ≡ n → length at ≡ n → length (sums_each from to at whole) ≡ n
  length-sums [] to at n long_from long_to long_at = long_from
  length-sums (a ∷ from) [] at n long_from long_to long_at = long_to
  length-sums (a ∷ from) (b ∷ to) [] n long_from long_to long_at = long_at
  length-sums (a ∷ from) (b ∷ to) (k ∷ at) zero long_from long_to long_at = absurd (omega (arith, long_from))
  length-sums (a ∷ from) (b ∷ to) (k ∷ at) (suc n) long_from long_to long_at =
      ap suc (length-sums from to at n (omega (arith, long_from)) (omega (arith, long_to)) (omega (arith, long_at)))

  pub sums_small : (from to : List ℤ) (at : List ℕ) → Each1 (FitsSigned w16) from → Each1 (FitsSigned w16) to → Each1 (λ k. k < whole) at
      → Each1 (λ sum. unsigned_abs sum ≤ 32768 * whole) (sums_each from to at whole)
  sums_small [] to at f g less = tt
  sums_small (a ∷ from) [] at f g less = tt
  sums_small (a ∷ from) (b ∷ to) [] f g less = tt
  sums_small (a ∷ from) (b ∷ to) (k ∷ at) f g less = (sum_small a b k whole f.0 g.0 less.0, sums_small from to at f.1 g.1 less.1)

  pub quotients_faded : (from to : List ℤ) (at : List ℕ) → map (λ sum. int_div sum (pos whole)) (sums_each from to at whole) ≡ faded_each from to at whole
  quotients_faded [] to at = refl
  quotients_faded (a ∷ from) [] at = refl
  quotients_faded (a ∷ from) (b ∷ to) [] = refl
  quotients_faded (a ∷ from) (b ∷ to) (k ∷ at) = ap (λ l. int_div (sum_of a b k whole) (pos whole) ∷ l) (quotients_faded from to at)

  pub each_fit : (from to : List ℤ) (at : List ℕ) → Each1 (FitsSigned w16) from → Each1 (FitsSigned w16) to → Each1 (λ k. k < whole) at
      → Each1 (FitsSigned w16) (faded_each from to at whole)
  each_fit [] to at f g less = tt
  each_fit (a ∷ from) [] at f g less = tt
  each_fit (a ∷ from) (b ∷ to) [] f g less = tt
  each_fit (a ∷ from) (b ∷ to) (k ∷ at) f g less = (faded_fits a b k whole f.0 g.0 less.0, each_fit from to at f.1 g.1 less.1)
