use Rattle.std.proofs.Common.{rules, ◌≡◌, ◌<◌, ◌+◌, ◌∙◌, ◌++◌, Some, true, All, length, get_or, map, drop, slice_get, arith, ap, sym, refl, subst}
use Rattle.std.proofs.lemmas.List.{get_or_default}
use Rattle.std.proofs.lemmas.Option.{slice_get_read}
use Rattle.plan_core.specs.Plans.{sink_node}
use Rattle.plan_core.specs.declared.sink.SinkPlan.TheVariants.{Feed}
use Rattle.clock_infer.specs.declared.clock_map.NodeClock.TheVariants.{Main}
use Rattle.stream_meaning.specs.Instants.{same_clock}
use Rattle.clock_nodes.specs.Scenes.{setting_over}
use Rattle.clock_ticks.specs.Beginnings.{IsNewFeed}
use Rattle.clock_ticks.specs.Engines.{feed_of, feeds_from}
use Rattle.clock_ticks.proofs.Sinks.{all_more}
use Rattle.clock_ticks.proofs.FedSinks.{feed_here, feeds_more}
use Rattle.clock_ticks.proofs.outputs.feeds_of.Goals as goal

pub loop-i-preserved : goal.loop-i-preserved
loop-i-preserved c =
    let at : slice_get c.as_slice-sinks.result.now c.loop-i.i ≡ Some (Feed c.in-Feed.buffer c.in-Feed.node) =
    slice_get_read _ _ _ _ refl c.loop-i-test.true c.index-sinks-i.is ∙ ap Some c.in-Feed.is in
    let low : sink_node (get_or c.as_slice-sinks.result.now c.loop-i.i c.index-sinks-i.result) < length c.args.scene.now.plan.now.nodes =
    subst (λ sinks. All (λ sink. sink_node sink < length c.args.scene.now.plan.now.nodes) sinks) (sym c.as_slice-sinks.ensures) c.requires.sinks c.loop-i.i c.index-sinks-i.result c.loop-i-test.true in
    let which = ap sink_node (sym c.index-sinks-i.is ∙ c.in-Feed.is) in
    let here : c.in-Feed.node < length c.args.scene.now.clocks.now = omega (arith, low, which, c.requires.in_clocks) in
    let yes : c.is_main.result ≡ true = search rules in
    let inside : same_clock (get_or c.args.scene.now.clocks.now c.in-Feed.node (Main 0)) (Main c.args.clock) ≡ true =
    ap (λ of. same_clock of (Main c.args.clock)) (get_or_default _ c.in-Feed.node (Main 0) _ here) ∙ sym c.is_main.ensures ∙ yes in
    record {
      feeds = λ other.
          ap (λ xs. map feed_of xs ++ feeds_from (setting_over c.args.scene.now other) c.args.clock (drop (c.loop-i.i + 1) c.as_slice-sinks.result.now)) c.in_ok-push.ensures.items
          ∙ feeds_more c.loop-i.feeds.items c.in_ok-feed_port.field-0 (c.in-Feed.buffer, c.in-Feed.node) _ c.in_ok-feed_port.ensures.feed
          ∙ ap (λ os. map feed_of c.loop-i.feeds.items ++ os)
          (sym (feed_here (setting_over c.args.scene.now other) c.args.clock c.loop-i.i c.as_slice-sinks.result.now c.in-Feed.buffer c.in-Feed.node at inside))
          ∙ c.loop-i.invariant.feeds other;
      new = subst (λ xs. All (IsNewFeed c.args.scene.now.plan.now.frame) xs) (sym c.in_ok-push.ensures.items)
          (all_more (IsNewFeed c.args.scene.now.plan.now.frame) c.loop-i.feeds.items c.in_ok-feed_port.field-0 c.loop-i.invariant.new c.in_ok-feed_port.ensures.new);
    }
