use Rattle.std.proofs.Common.{◌≡◌, ◌≤◌, drop, length}
use Rattle.buffer_sides.specs.Sides.{AreFeeders}
use Rattle.buffer_sides.proofs.sides.feeders.Given as goal

abbrev pub invariant-loop-i : goal.invariant-loop-i
invariant-loop-i l = record {
  within : l.i ≤ length l.plan.sinks;
  size : length l.found.items ≡ length l.plan.buffers;
  fed : AreFeeders (drop l.i l.plan.sinks) l.found.items;
}

abbrev pub decreases-loop-i : goal.decreases-loop-i
decreases-loop-i l = l.i
