use Rattle.std.proofs.Common.{◌≡◌, ◌≤◌, drop, length}
use Rattle.buffer_sides.specs.Sides.{AreReaders}
use Rattle.buffer_sides.proofs.sides.readers.Given as goal

abbrev pub invariant-loop-i : goal.invariant-loop-i
invariant-loop-i l = record {
  within : l.i ≤ length l.plan.nodes;
  size : length l.found.items ≡ length l.plan.buffers;
  read : AreReaders l.plan l.i (drop l.i l.plan.nodes) l.found.items;
}

abbrev pub decreases-loop-i : goal.decreases-loop-i
decreases-loop-i l = l.i
