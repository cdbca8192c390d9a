use Rattle.std.proofs.Common.{◌≡◌, false, take}
use Rattle.std.specs.Prelude.{nat_eq}
use Rattle.std.specs.List.{list_any}
use Rattle.plan_core.specs.Plans.{sink_node}
use Rattle.week_lines.proofs.above.is_written.Given as goal

abbrev pub invariant-loop-sink : goal.invariant-loop-sink
invariant-loop-sink l = list_any (λ sink. nat_eq (sink_node sink) l.number) (take l.sink-index l.sinks) ≡ false
