use Rattle.std.proofs.Common.{◌∙◌, ◌||◌, Bool, List, nat_eq, ap}
use Rattle.std.specs.List.{list_any}
use Rattle.plan_core.specs.Plans.{sink_node}
use Rattle.plan_core.specs.declared.sink.SinkPlan.{SinkPlan}
use Rattle.clock_ticks.proofs.parts.demand_roots.Goals as goal

pub keep_roots-requires-clause-demanded : goal.keep_roots-requires-clause-demanded
keep_roots-requires-clause-demanded c i =
    c.demand_sinks.ensures i
    ∙ ap (λ (b : Bool). b || list_any (λ sink. nat_eq (sink_node sink) i) c.as_slice.result.now) (c.requires.none i)
    ∙ ap (λ (sinks : List SinkPlan). list_any (λ sink. nat_eq (sink_node sink) i) sinks) c.as_slice.ensures
