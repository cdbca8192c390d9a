use Rattle.std.proofs.Common.{◌≡◌, drop, slice_get}
use Rattle.frame_core.specs.MarkRuns.{marks_in}
use Rattle.frame_core.proofs.runs.mark_at.Given as goal

abbrev pub invariant-loop-index : goal.invariant-loop-index
invariant-loop-index l = slice_get (marks_in (drop l.index l.runs)) l.skip ≡ slice_get (marks_in l.runs) l.at
