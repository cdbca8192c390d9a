use Rattle.std.proofs.Common.{List, ◌++◌, ◌∷◌, [], ℕ, map, take, sym, ap, ◌∙◌}
use Rattle.plan_core.specs.declared.sink.SinkPlan.{SinkPlan}
use Rattle.plan_core.specs.Plans.{sink_node}
use Rattle.clock_forcings.proofs.Pushing.{one_mapped}
use Rattle.clock_infer.proofs.numbers.nodes_of.Goals as goal

pub loop-sink-preserved : goal.loop-sink-preserved
loop-sink-preserved c =
    let f : SinkPlan → ℕ = λ sink. sink_node sink in
    let xs : List SinkPlan = c.args.sinks.now in
    let i : ℕ = c.loop-sink.sink-index in
    c.in_ok-push.ensures.items
    ∙ ap (λ (ns : List ℕ). ns ++ (c.node_of.result ∷ [])) c.loop-sink.invariant
    ∙ ap (λ (n : ℕ). map f (take i xs) ++ (n ∷ [])) c.node_of.ensures
    ∙ sym (one_mapped f xs i c.sink-item.result c.loop-sink-test.true c.sink-item.is)
