use Rattle.std.proofs.Common.{◌≡◌, ◌++◌, pos, replicate}
use Rattle.circular_buffer.specs.Buffer.{buffer}
use Rattle.cell_ring.proofs.side_ring.hold.Given as goal

abbrev pub invariant-loop : goal.invariant-loop
invariant-loop l = l.held ≡ buffer (l.initial.held.items ++ replicate l.counter (pos 0)) l.initial.held.capacity
