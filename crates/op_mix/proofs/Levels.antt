-- Sums of so many samples each.
use Rattle.std.proofs.Common.{◌≡◌, ℕ, ℤ, suc, zero, List, [], ◌∷◌, All, length, replicate, arith}
use Rattle.std.specs.Simd.Lanes.{Each2}
use Rattle.sample_kernels.specs.Samples.{IsSumOf}

pub each_of : (parts : ℕ) (sums : List ℤ) (n : ℕ) → n ≡ length sums → All (IsSumOf parts) sums → Each2 IsSumOf (replicate n parts) sums
each_of parts [] zero long all = tt
each_of parts [] (suc n) long all = absurd (omega (arith, long))
each_of parts (sum ∷ sums) zero long all = absurd (omega (arith, long))
each_of parts (sum ∷ sums) (suc n) long all = (all 0 sum (omega arith), each_of parts sums n (omega (arith, long)) (λ k d low. all (suc k) d (omega (arith, low))))
