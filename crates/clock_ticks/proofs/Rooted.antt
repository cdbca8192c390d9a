-- The nodes of a clock's outputs and feeds: their own clock demands them of itself.
use Rattle.std.proofs.Common.{◌≡◌, ◌<◌, ◌∙◌, ℕ, Some, true, false, List, All, length, get_or, nat_eq, slice_get, ap, sym}
use Rattle.std.specs.List.{list_any}
use Rattle.std.proofs.lemmas.Bool.{eq-eqb}
use Rattle.std.proofs.lemmas.List.Folds.{list_any_at}
use Rattle.std.proofs.lemmas.Option.{slice_get-get_or, slice_get_within}
use Rattle.plan_core.specs.declared.sink.SinkPlan.{SinkPlan}
use Rattle.plan_core.specs.declared.sink.SinkPlan.TheVariants.{Output, Feed}
use Rattle.plan_core.specs.Plans.{sink_node}
use Rattle.clock_infer.specs.declared.clock_map.NodeClock.TheVariants.{Main}
use Rattle.stream_meaning.specs.Instants.{clock_of, is_root}
use Rattle.clock_outputs.specs.declared.port.Port.{Port}
use Rattle.clock_outputs.specs.declared.feed.FeedPort.{FeedPort}
use Rattle.clock_ticks.specs.declared.engine.EngineParts.{EngineParts}
use Rattle.clock_ticks.specs.Engines.{AreParts, feed_of, setting_of}
use Rattle.clock_ticks.proofs.Feeding.{feed_inside, feeds_there}
use Rattle.clock_ticks.proofs.Numbered.{all_at, got_mapped, item_is, port_inside, port_there}

-- a sink has its node
sink_any : (sinks : List SinkPlan) (place : ℕ) (sink : SinkPlan) → slice_get sinks place ≡ Some sink → list_any (λ s. nat_eq (sink_node s) (sink_node sink)) sinks ≡ true
sink_any sinks place sink at =
    list_any_at (λ s. nat_eq (sink_node s) (sink_node sink)) sinks place sink (slice_get_within sinks place sink at)
    (eq-eqb (sink_node (get_or sinks place sink)) (sink_node sink) (ap sink_node (item_is sinks place sink sink at)))

module _ (parts : EngineParts) (fit : AreParts parts) where
  root_at : (place : ℕ) (sink : SinkPlan) → slice_get parts.scene.plan.now.sinks place ≡ Some sink → clock_of (setting_of parts) (sink_node sink) ≡ Main parts.clock
      → (sink_node sink < length parts.scene.plan.now.nodes) × (get_or parts.own.items (sink_node sink) false ≡ true)
  root_at place sink at inside =
      let low = all_at (λ s. sink_node s < length parts.scene.plan.now.nodes) parts.scene.plan.now.sinks fit.plan.sinks place sink at in (
        low,
        fit.own.each (sink_node sink) low
            ∙ ap (λ clock. is_root (setting_of parts) clock (sink_node sink)) inside
            ∙ sink_any parts.scene.plan.now.sinks place sink at,
      )

  pub port_root : (k : ℕ) (port : Port) → slice_get parts.ports.items k ≡ Some port → (port.node < length parts.scene.plan.now.nodes) × (get_or parts.own.items port.node false ≡ true)
  port_root k port at =
      let is = port_there (setting_of parts) parts.clock parts.ports.items fit.outputs k port at in
      root_at is.place (Output is.name port.node is.fallible is.wide) is.there (port_inside (setting_of parts) parts.clock parts.ports.items fit.outputs k port at)

  pub feed_root : (k : ℕ) (feed : FeedPort) → slice_get parts.feeds.items k ≡ Some feed → (feed.node < length parts.scene.plan.now.nodes) × (get_or parts.own.items feed.node false ≡ true)
  feed_root k feed at =
      let is = feeds_there (setting_of parts) parts.clock parts.scene.plan.now.sinks k (feed_of feed) (sym (ap (λ xs. slice_get xs k) fit.feeds) ∙ got_mapped feed_of parts.feeds.items k feed at) in
      root_at is.place (Feed feed.buffer feed.node) is.there (feed_inside (setting_of parts) parts.clock parts.feeds.items fit.feeds k feed at)

  pub ports_low : All (λ port. port.node < length parts.scene.plan.now.nodes) parts.ports.items
  ports_low k d h = (port_root k (get_or parts.ports.items k d) (slice_get-get_or parts.ports.items k d h)).0

  pub feeds_low : All (λ feed. feed.node < length parts.scene.plan.now.nodes) parts.feeds.items
  feeds_low k d h = (feed_root k (get_or parts.feeds.items k d) (slice_get-get_or parts.feeds.items k d h)).0
