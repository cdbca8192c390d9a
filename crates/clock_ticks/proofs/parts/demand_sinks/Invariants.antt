use Rattle.std.proofs.Common.{◌≡◌, ◌||◌, ℕ, false, drop, get_or, nat_eq}
use Rattle.std.specs.List.{list_any}
use Rattle.plan_core.specs.Plans.{sink_node}
use Rattle.clock_ticks.proofs.parts.demand_sinks.Given as goal

abbrev pub invariant-loop-sink : goal.invariant-loop-sink
invariant-loop-sink l = (i : ℕ) →
    (get_or l.demanded i false || list_any (λ sink. nat_eq (sink_node sink) i) (drop l.sink-index l.sinks))
    ≡ (get_or l.initial.demanded i false || list_any (λ sink. nat_eq (sink_node sink) i) l.sinks)
