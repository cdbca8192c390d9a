use Rattle.std.proofs.Common.{◌≡◌, ◌≤◌, length, drop}
use Rattle.frame_core.specs.MarkRuns.{marks_in}
use Rattle.cell_ring.specs.MarkRuns.{AreSome}
use Rattle.cell_ring.proofs.mark_ring.drop_marks.Given as goal

abbrev pub invariant-loop-left : goal.invariant-loop-left
invariant-loop-left l = record {
  marks : drop l.left (marks_in l.runs.items) ≡ drop l.count (marks_in l.initial.runs.items);
  some : AreSome l.runs.items;
  few : length l.runs.items ≤ l.runs.capacity;
  room : l.runs.capacity ≡ l.initial.runs.capacity;
}

abbrev pub decreases-loop-left : goal.decreases-loop-left
decreases-loop-left l = length l.runs.items
