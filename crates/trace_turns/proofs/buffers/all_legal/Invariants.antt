use Rattle.std.proofs.Common.{◌≡◌, ◌<◌, ℕ, true, Some, slice_get}
use Rattle.plan_core.specs.declared.sink.BufferPlan.{BufferPlan}
use Rattle.trace_records.specs.Told.{are_legal}
use Rattle.trace_records.specs.Traces.{text_of}
use Rattle.trace_turns.proofs.buffers.all_legal.Given as goal

abbrev pub invariant-loop-b : goal.invariant-loop-b
invariant-loop-b l = record { so_far : (k : ℕ) (plan : BufferPlan) → k < l.b → slice_get l.plans k ≡ Some plan → are_legal plan.capacity 0 (text_of l.logs k) ≡ true }
