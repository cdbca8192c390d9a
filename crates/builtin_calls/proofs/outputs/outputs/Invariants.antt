use Rattle.std.proofs.Common.{◌≡◌, take}
use Rattle.std.specs.Prelude.{count_by}
use Rattle.plan_core.specs.Plans.{is_output}
use Rattle.builtin_calls.proofs.outputs.outputs.Given as goal

abbrev pub invariant-loop-sink : goal.invariant-loop-sink
invariant-loop-sink l = l.count ≡ count_by is_output (take l.sink-index l.sinks)
