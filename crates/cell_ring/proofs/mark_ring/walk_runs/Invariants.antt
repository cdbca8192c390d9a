use Rattle.std.proofs.Common.{◌≡◌, ◌<◌, ◌≤◌, ◌+◌, ◌-◌, ℕ, true, length, drop, slice_get}
use Rattle.frame_core.specs.MarkRuns.{marks_in}
use Rattle.cell_ring.specs.MarkRuns.{passing}
use Rattle.cell_ring.proofs.mark_ring.walk_runs.Given as goal

abbrev pub invariant-loop-at : goal.invariant-loop-at
invariant-loop-at l = record {
  within : l.count ≤ l.most;
  pass : (j : ℕ) → j < l.count → passing l.begins l.title (slice_get (marks_in l.runs) (l.from + j)) ≡ true;
  rest : drop l.skip (marks_in (drop l.at l.runs)) ≡ drop (l.from + l.count) (marks_in l.runs);
  sum : l.from + l.count + length (marks_in (drop l.at l.runs)) ≡ l.skip + length (marks_in l.runs);
}

abbrev pub decreases-loop-at : goal.decreases-loop-at
decreases-loop-at l = length l.runs - l.at
