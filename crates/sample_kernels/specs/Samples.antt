-- The arithmetic of samples: exact, rounded toward zero, and cut to the range of a sample where it says so.
use Rattle.std.specs.Prelude.{ℕ, ◌*◌, ℤ, pos, negsuc, ◌+ℤ◌, ◌*ℤ◌, ◌≤ℤ◌, int_div, neg_ℤ}
use Rattle.std.specs.Int.{int_max, int_min}

-- a number cut to the range of a 16-bit sample, -32768 to 32767
abbrev pub clamped : ℤ → ℤ
clamped number = int_max (negsuc 32767) (int_min number (pos 32767))

-- the number lies in the range that a sum of `parts` 16-bit samples can have
pub record IsSumOf (parts : ℕ) (sum : ℤ) : Type 0 where
  pub low : neg_ℤ (pos (32768 * parts)) ≤ℤ sum
  pub high : sum ≤ℤ pos (32767 * parts)

-- the mean of `parts` samples that have this sum, rounded toward zero
abbrev pub mean_of : ℤ → ℕ → ℤ
mean_of sum parts = int_div sum (pos parts)

-- a sample times a factor in millionths, rounded toward zero and cut to the range of a sample
abbrev pub scaled : ℤ → ℤ → ℤ
scaled millionths sample = clamped (int_div (sample *ℤ millionths) (pos 1000000))

-- half the sum of a left and a right sample, rounded toward zero: the mono sample of a stereo one
abbrev pub half_of : ℤ → ℤ → ℤ
half_of left right = int_div (left +ℤ right) (pos 2)
