use Rattle.std.proofs.Common.{◌≡◌, ◌<◌, ◌≤◌, ℕ, [], slice_index_or}
use Rattle.trace_turns.specs.Answering.{BufferState}
use Rattle.trace_turns.proofs.buffers.unread_stay.Given as goal

abbrev pub invariant-loop-b : goal.invariant-loop-b
invariant-loop-b l = record { so_far : (k : ℕ) (d : BufferState) → k < l.b → l.running ≤ slice_index_or l.readers k 0 → (slice_index_or l.buffers k d).takes ≡ [] }
