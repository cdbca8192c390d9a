use Rattle.std.proofs.Common.{◌<◌, ℕ, slice_index_or}
use Rattle.trace_turns.specs.declared.ends.Ends.{Ends}
use Rattle.trace_turns.specs.Answering.{BufferState}
use Rattle.trace_turns.specs.Turns.{IsAtEnd}
use Rattle.trace_turns.proofs.ends.at_ends.Given as goal

abbrev pub invariant-loop-b : goal.invariant-loop-b
invariant-loop-b l = record {
  so_far : (k : ℕ) (s : BufferState) (e : Ends) → k < l.b → IsAtEnd (slice_index_or l.buffers k s) (slice_index_or l.ends k e) l.window;
}
