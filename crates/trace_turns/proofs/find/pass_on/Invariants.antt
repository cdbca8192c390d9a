use Rattle.std.proofs.Common.{◌≤◌, ◌+◌}
use Rattle.trace_turns.specs.Turns.{base_at}
use Rattle.trace_turns.proofs.Searching.{AreLive}
use Rattle.trace_turns.proofs.find.pass_on.Given as goal

abbrev pub invariant-loop-left : goal.invariant-loop-left
invariant-loop-left l = record {
  live : AreLive (base_at l.station) l.station.clocks.now l.window l.ticks l.sides.feeders.items l.sides.readers.items l.ends l.fn.taps.buffers.items l.lives.items l.made.items l.left l.turns.items l.taps.buffers.items;
}

abbrev pub decreases-loop-left : goal.decreases-loop-left
decreases-loop-left l = l.left + l.left + l.tries

abbrev pub invariant-loop-clock : goal.invariant-loop-clock
invariant-loop-clock l = record {
  live : AreLive (base_at l.station) l.station.clocks.now l.window l.ticks l.sides.feeders.items l.sides.readers.items l.ends l.fn.taps.buffers.items l.lives.items l.made.items l.left l.turns.items l.taps.buffers.items;
  within : l.left ≤ l.before;
}
