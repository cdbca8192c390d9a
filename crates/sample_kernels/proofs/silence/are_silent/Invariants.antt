use Rattle.std.proofs.Common.{◌≡◌, ◌<◌, ℕ, pos, get_or}
use Rattle.sample_kernels.proofs.silence.are_silent.Given as goal

abbrev pub invariant-loop-sample : goal.invariant-loop-sample
invariant-loop-sample l = l.found ≡ pos 0 → (k : ℕ) → k < l.sample-index → get_or l.samples k (pos 0) ≡ pos 0
