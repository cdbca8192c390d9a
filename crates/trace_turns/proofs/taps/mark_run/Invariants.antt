use Rattle.std.proofs.Common.{◌≡◌, ◌<◌, ℕ, length, slice_index_or}
use Rattle.trace_turns.specs.declared.told.Mark.{Mark}
use Rattle.trace_turns.specs.Answering.{BufferState}
use Rattle.trace_turns.specs.Marks.{mark_of}
use Rattle.trace_turns.proofs.taps.mark_run.Given as goal

abbrev pub invariant-loop-b : goal.invariant-loop-b
invariant-loop-b l = record {
  many : length l.marks.items ≡ length l.fn.marks.items;
  done : (k : ℕ) (d : BufferState) (e : Mark) → k < l.b → slice_index_or l.marks.items k e ≡ mark_of (slice_index_or l.buffers k d);
}
