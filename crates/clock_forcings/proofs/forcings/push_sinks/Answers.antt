use Rattle.std.proofs.Common.{List, ◌++◌, ◌∷◌, [], ℕ, take, sym, ap, ◌∙◌, append_assoc}
use Rattle.plan_core.specs.declared.sink.SinkPlan.{SinkPlan}
use Rattle.plan_core.specs.Plans.{sink_node}
use Rattle.clock_forcings.specs.declared.forcings.Forced.TheVariants.{AnyMain}
use Rattle.clock_forcings.specs.declared.forcings.Forcing.{Forcing}
use Rattle.clock_forcings.specs.Forcings.{sink_forcings}
use Rattle.clock_forcings.proofs.Pushing.{one_mapped}
use Rattle.clock_forcings.proofs.forcings.push_sinks.Goals as goal

-- what a sink of this node forces
abbrev forced_main : ℕ → Forcing
forced_main node = record { node = node; forced = AnyMain }

pub loop-sink-preserved : goal.loop-sink-preserved
loop-sink-preserved c =
    let f : SinkPlan → Forcing = λ sink. forced_main (sink_node sink) in
    let xs : List SinkPlan = c.args.sinks.now in
    let i : ℕ = c.loop-sink.sink-index in
    c.in_ok-push.ensures.items
    ∙ ap (λ (fs : List Forcing). fs ++ (forced_main c.node_of.result ∷ [])) c.loop-sink.invariant
    ∙ append_assoc c.args.into.now.items (sink_forcings (take i xs)) (forced_main c.node_of.result ∷ [])
    ∙ ap (λ (n : ℕ). c.args.into.now.items ++ (sink_forcings (take i xs) ++ (forced_main n ∷ []))) c.node_of.ensures
    ∙ ap (λ (fs : List Forcing). c.args.into.now.items ++ fs) (sym (one_mapped f xs i c.sink-item.result c.loop-sink-test.true c.sink-item.is))
