use Rattle.std.proofs.Common.{◌≤◌, ℕ}
use Rattle.trace_records.specs.Clocks.{Log}
use Rattle.trace_turns.specs.Turns.{base_at, AreFit, chunks_of}
use Rattle.trace_turns.proofs.Searching.{ArePassing, AreStuck, made_of, LeadTo}
use Rattle.trace_turns.specs.Thin.{AreKept}
use Rattle.trace_turns.proofs.find.search_chunks.Given as goal

abbrev pub invariant-loop-left : goal.invariant-loop-left
invariant-loop-left l = record {
  passing : ArePassing (base_at l.station) l.station.clocks.now l.window l.ticks l.ends l.fn.taps.buffers.items l.made.items l.left l.taps.buffers.items;
  kept : AreKept l.taps.buffers.items;
  led : (text : ℕ → Log) → AreFit (base_at l.station) l.window l.ticks text l.fn.taps.buffers.items l.ends
      → LeadTo (base_at l.station) l.station.clocks.now.running l.window l.ticks text l.turns.items (made_of l.made.items) (chunks_of l.taps.buffers.items);
}

abbrev pub decreases-loop-left : goal.decreases-loop-left
decreases-loop-left l = l.left

abbrev pub invariant-loop-clock : goal.invariant-loop-clock
invariant-loop-clock l = record {
  passing : ArePassing (base_at l.station) l.station.clocks.now l.window l.ticks l.ends l.fn.taps.buffers.items l.made.items l.left l.taps.buffers.items;
  kept : AreKept l.taps.buffers.items;
  led : (text : ℕ → Log) → AreFit (base_at l.station) l.window l.ticks text l.fn.taps.buffers.items l.ends
      → LeadTo (base_at l.station) l.station.clocks.now.running l.window l.ticks text l.turns.items (made_of l.made.items) (chunks_of l.taps.buffers.items);
  within : l.left ≤ l.before;
  stuck : AreStuck (base_at l.station) l.window l.ticks l.ends l.fn.taps.buffers.items l.made.items l.taps.buffers.items l.before l.left l.clock;
}
