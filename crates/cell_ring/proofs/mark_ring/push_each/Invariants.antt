use Rattle.std.proofs.Common.{◌≡◌, ◌++◌, drop}
use Rattle.frame_core.specs.MarkRuns.{marks_in}
use Rattle.cell_ring.specs.MarkRuns.{AreSome}
use Rattle.cell_ring.proofs.mark_ring.push_each.Given as goal

abbrev pub invariant-loop-at : goal.invariant-loop-at
invariant-loop-at l = record {
  marks : marks_in l.runs.items ++ drop l.left (marks_in (drop l.at l.more)) ≡ marks_in l.initial.runs.items ++ drop l.skip (marks_in l.more);
  some : AreSome l.runs.items;
  room : l.runs.capacity ≡ l.initial.runs.capacity;
}
