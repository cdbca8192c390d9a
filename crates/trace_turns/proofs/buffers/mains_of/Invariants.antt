use Rattle.std.proofs.Common.{◌≡◌, ◌<◌, ℕ, length, slice_index_or}
use Rattle.stream_meaning.specs.Instants.{Setting}
use Rattle.run_records.specs.Buffers.{main_of}
use Rattle.trace_turns.proofs.buffers.mains_of.Given as goal

abbrev pub invariant-loop-node : goal.invariant-loop-node
invariant-loop-node l = record {
  size : length l.mains.items ≡ l.node-index;
  each : (setting : Setting) → setting.plan ≡ l.plan → setting.clocks ≡ l.clocks.of → (b : ℕ) → b < l.node-index → slice_index_or l.mains.items b 0 ≡ main_of setting (slice_index_or l.nodes b 0);
}
