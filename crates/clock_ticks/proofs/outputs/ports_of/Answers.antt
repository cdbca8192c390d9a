use Rattle.std.proofs.Common.{rules, ◌≡◌, ◌<◌, ◌+◌, ◌∙◌, ◌++◌, Some, true, All, length, get_or, map, drop, slice_get, arith, ap, sym, refl, subst}
use Rattle.std.proofs.lemmas.List.{get_or_default}
use Rattle.std.proofs.lemmas.Option.{slice_get_read}
use Rattle.plan_core.specs.Plans.{sink_node}
use Rattle.plan_core.specs.declared.sink.SinkPlan.TheVariants.{Output}
use Rattle.clock_infer.specs.declared.clock_map.NodeClock.TheVariants.{Main}
use Rattle.stream_meaning.specs.Instants.{same_clock}
use Rattle.clock_nodes.specs.Scenes.{setting_over}
use Rattle.clock_ticks.specs.Beginnings.{IsNewPort}
use Rattle.clock_ticks.specs.Engines.{output_of, outputs_from}
use Rattle.clock_ticks.proofs.Sinks.{all_more, at_output, outputs_more}
use Rattle.clock_ticks.proofs.outputs.ports_of.Goals as goal

pub loop-i-preserved : goal.loop-i-preserved
loop-i-preserved c =
    let at : slice_get c.as_slice-sinks.result.now c.loop-i.i ≡ Some (Output c.in-Output.name c.in-Output.node c.in-Output.fallible c.in-Output.wide) =
    slice_get_read _ _ _ _ refl c.loop-i-test.true c.index-sinks-i.is ∙ ap Some c.in-Output.is in
    let low : sink_node (get_or c.as_slice-sinks.result.now c.loop-i.i c.index-sinks-i.result) < length c.args.scene.now.plan.now.nodes =
    subst (λ sinks. All (λ sink. sink_node sink < length c.args.scene.now.plan.now.nodes) sinks) (sym c.as_slice-sinks.ensures) c.requires.sinks c.loop-i.i c.index-sinks-i.result c.loop-i-test.true in
    let which = ap sink_node (sym c.index-sinks-i.is ∙ c.in-Output.is) in
    let here : c.in-Output.node < length c.args.scene.now.clocks.now = omega (arith, low, which, c.requires.in_clocks) in
    let yes : c.is_main.result ≡ true = search rules in
    let inside : same_clock (get_or c.args.scene.now.clocks.now c.in-Output.node (Main 0)) (Main c.args.clock) ≡ true =
    ap (λ of. same_clock of (Main c.args.clock)) (get_or_default _ c.in-Output.node (Main 0) _ here) ∙ sym c.is_main.ensures ∙ yes in
    record {
      outputs = λ other.
          ap (λ xs. map output_of xs ++ outputs_from (setting_over c.args.scene.now other) c.args.clock (c.loop-i.i + 1) (drop (c.loop-i.i + 1) c.as_slice-sinks.result.now)) c.in_ok-push.ensures.items
          ∙ outputs_more c.loop-i.ports.items c.in_ok-port_of.field-0 (c.loop-i.i, c.in-Output.node) _ c.in_ok-port_of.ensures.output
          ∙ ap (λ os. map output_of c.loop-i.ports.items ++ os)
          (sym (at_output (setting_over c.args.scene.now other) c.args.clock c.loop-i.i c.as_slice-sinks.result.now c.in-Output.name c.in-Output.node c.in-Output.fallible c.in-Output.wide at inside))
          ∙ c.loop-i.invariant.outputs other;
      new = λ other. subst (λ xs. All (IsNewPort (setting_over c.args.scene.now other)) xs) (sym c.in_ok-push.ensures.items)
          (all_more (IsNewPort (setting_over c.args.scene.now other)) c.loop-i.ports.items c.in_ok-port_of.field-0 (c.loop-i.invariant.new other) (c.in_ok-port_of.ensures.new other));
    }
