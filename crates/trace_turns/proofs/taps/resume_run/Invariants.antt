use Rattle.std.proofs.Common.{◌≡◌, ◌<◌, ◌≤◌, ℕ, length, nat_eq, slice_index_or}
use Rattle.trace_turns.specs.declared.told.Mark.{Mark}
use Rattle.trace_turns.specs.Answering.{BufferState}
use Rattle.trace_turns.specs.Marks.{resumed}
use Rattle.trace_turns.proofs.taps.resume_run.Given as goal

abbrev pub invariant-loop-b : goal.invariant-loop-b
invariant-loop-b l = record {
  many : length l.buffers.items ≡ length l.fn.buffers.items;
  done : (k : ℕ) (d : BufferState) (e : Mark) → k < l.b → slice_index_or l.buffers.items k d
      ≡ resumed (slice_index_or l.fn.buffers.items k d) (nat_eq (slice_index_or l.feeders k 0) l.clock) (nat_eq (slice_index_or l.readers k 0) l.clock) (slice_index_or l.marks k e);
  left : (k : ℕ) (d : BufferState) → l.b ≤ k → slice_index_or l.buffers.items k d ≡ slice_index_or l.fn.buffers.items k d;
}
