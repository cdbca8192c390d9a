use Rattle.std.proofs.Common.{◌≡◌, ◌<◌, ◌≤◌, ℕ, length, slice_index_or}
use Rattle.trace_turns.specs.Answering.{BufferState}
use Rattle.trace_turns.specs.Marks.{HasLetGo}
use Rattle.trace_turns.proofs.taps.let_go_run.Given as goal

abbrev pub invariant-loop-b : goal.invariant-loop-b
invariant-loop-b l = record {
  many : length l.buffers.items ≡ length l.fn.buffers.items;
  done : (k : ℕ) (d : BufferState) → k < l.b → HasLetGo (slice_index_or l.fn.buffers.items k d) (slice_index_or l.buffers.items k d);
  left : (k : ℕ) (d : BufferState) → l.b ≤ k → slice_index_or l.buffers.items k d ≡ slice_index_or l.fn.buffers.items k d;
}
