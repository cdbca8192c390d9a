use Rattle.std.proofs.Common.{◌≡◌, ◌<◌, ℕ, pos, get_or}
use Rattle.sample_kernels.proofs.silence.are_zeros.Given as goal

abbrev pub invariant-loop-sum : goal.invariant-loop-sum
invariant-loop-sum l = l.found ≡ pos 0 → (k : ℕ) → k < l.sum-index → get_or l.sums k (pos 0) ≡ pos 0
