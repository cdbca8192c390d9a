use Rattle.std.proofs.Common.{◌≡◌, ℕ, ◌<◌, false, Some, slice_get}
use Rattle.plan_core.specs.declared.sink.SinkPlan.{SinkPlan as Sink}
use Rattle.fallible_infer.specs.Infallible.{mark_at, refuses}
use Rattle.fallible_infer.proofs.outputs.check_outputs.Given as goal

abbrev pub invariant-loop-k : goal.invariant-loop-k
invariant-loop-k l = (k : ℕ) (sink : Sink) → k < l.k → slice_get l.sink-items k ≡ Some sink → refuses (mark_at l.marks) sink ≡ false
