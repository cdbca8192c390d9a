use Rattle.std.proofs.Common.{◌≡◌, ◌<◌, ℕ, false, Some, slice_get}
use Rattle.plan_core.specs.declared.sink.SinkPlan.{SinkPlan}
use Rattle.stations.specs.Findings.{is_too_long}
use Rattle.station_check.proofs.lengths.check_lengths.Given as goal

abbrev pub invariant-loop-sink : goal.invariant-loop-sink
invariant-loop-sink l = (k : ℕ) (sink : SinkPlan) → k < l.sink-index → slice_get l.plan.sinks k ≡ Some sink → is_too_long l.plan l.ticks sink ≡ false
