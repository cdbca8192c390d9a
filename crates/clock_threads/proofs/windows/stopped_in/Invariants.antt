use Rattle.std.proofs.Common.{◌≡◌, ◌<◌, ℕ, None, slice_index_or}
use Rattle.clock_threads.proofs.windows.stopped_in.Given as goal

abbrev pub invariant-loop-k : goal.invariant-loop-k
invariant-loop-k g l = (k : ℕ) (d : _) → k < l.k → (slice_index_or l.tasks k d).engine.parts.stopped ≡ None
