use Rattle.std.proofs.Common.{◌≡◌, ℕ, Some, length, slice_get}
use Rattle.trace_replay.specs.declared.engines.Rest.{Rest}
use Rattle.trace_replay.specs.Replaying.{IsNewRest}
use Rattle.trace_replay.proofs.engines.new_rests.Given as goal

abbrev pub invariant-loop-engine : goal.invariant-loop-engine
invariant-loop-engine l = record {
  size : length l.rests.items ≡ l._engine;
  each : (k : ℕ) (rest : Rest) → slice_get l.rests.items k ≡ Some rest → IsNewRest l.buffers rest;
}
