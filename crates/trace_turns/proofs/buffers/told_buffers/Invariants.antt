use Rattle.std.proofs.Common.{◌≡◌, length}
use Rattle.trace_turns.specs.Logs.{AreNew}
use Rattle.trace_turns.proofs.buffers.told_buffers.Given as goal

abbrev pub invariant-loop-b : goal.invariant-loop-b
invariant-loop-b l = record {
  buffers_long : length l.buffers.items ≡ l.b;
  ends_long : length l.ends.items ≡ l.b;
  new : AreNew l.plans l.logs l.b l.buffers.items l.ends.items;
}
