use Rattle.std.proofs.Common.{rules, arith, List, ◌≡◌, ◌<◌, ◌∙◌, ◌++◌, ◌∷◌, [], length, slice_get, slice_index_or, ap, sym}
use Rattle.std.specs.Prelude.{Some}
use Rattle.plan_core.specs.declared.sink.SinkPlan.{SinkPlan}
use Rattle.plan_core.specs.declared.sink.SinkPlan.TheVariants.{Output, Feed}
use Rattle.station_render.proofs.Lists.{got}
use Rattle.station_render.proofs.Fits.{main_below}
use Rattle.station_render.proofs.Marking.{marks_more, marks_still}
use Rattle.station_render.proofs.Running.{marks_here, output_here}
use Rattle.station_render.proofs.engines.marks_of.Goals as goal

pub loop-k-preserved-in_default : goal.loop-k-preserved-in_default
loop-k-preserved-in_default g c =
    let low : c.loop-k.k < length c.args.plan.now.sinks = omega (arith, ap length c.as_slice-sinks.ensures) in
    let item : c.index-sinks-k.result ≡ slice_index_or c.args.plan.now.sinks c.loop-k.k c.index-sinks-k.result = c.index-sinks-k.is ∙ ap (λ (xs : List SinkPlan). slice_index_or xs c.loop-k.k c.index-sinks-k.result) c.as_slice-sinks.ensures in
    let at : slice_get c.args.plan.now.sinks c.loop-k.k ≡ Some (Feed c.in_default.field-0 c.in_default.field-1) = got c.args.plan.now.sinks c.loop-k.k c.index-sinks-k.result low ∙ ap Some (sym item ∙ c.in_default.is) in
    λ setting world ticks plan_is clocks_is engines. c.loop-k.invariant setting world ticks plan_is clocks_is engines ∙ sym (marks_still world ticks c.args.plan.now.sinks c.loop-k.k c.in_default.field-0 c.in_default.field-1 at)

pub clock_of-clock-requires : goal.clock_of-clock-requires
clock_of-clock-requires g c =
    let low : c.loop-k.k < length c.args.plan.now.sinks = omega (arith, ap length c.as_slice-sinks.ensures) in
    let item : c.index-sinks-k.result ≡ slice_index_or c.args.plan.now.sinks c.loop-k.k c.index-sinks-k.result = c.index-sinks-k.is ∙ ap (λ (xs : List SinkPlan). slice_index_or xs c.loop-k.k c.index-sinks-k.result) c.as_slice-sinks.ensures in
    let at : slice_get c.args.plan.now.sinks c.loop-k.k ≡ Some (Output c.in-Output.name c.in-Output.node c.in-Output.fallible c.in-Output.wide) = got c.args.plan.now.sinks c.loop-k.k c.index-sinks-k.result low ∙ ap Some (sym item ∙ c.in-Output.is) in
    let main = c.requires.main c.loop-k.k c.in-Output.name c.in-Output.node c.in-Output.fallible c.in-Output.wide at in
    (main.0, main.2)

pub bounds-engines-clock : goal.bounds-engines-clock
bounds-engines-clock g c =
    let low : c.loop-k.k < length c.args.plan.now.sinks = omega (arith, ap length c.as_slice-sinks.ensures) in
    let item : c.index-sinks-k.result ≡ slice_index_or c.args.plan.now.sinks c.loop-k.k c.index-sinks-k.result = c.index-sinks-k.is ∙ ap (λ (xs : List SinkPlan). slice_index_or xs c.loop-k.k c.index-sinks-k.result) c.as_slice-sinks.ensures in
    let at : slice_get c.args.plan.now.sinks c.loop-k.k ≡ Some (Output c.in-Output.name c.in-Output.node c.in-Output.fallible c.in-Output.wide) = got c.args.plan.now.sinks c.loop-k.k c.index-sinks-k.result low ∙ ap Some (sym item ∙ c.in-Output.is) in
    main_below c.args.plan.now c.args.clocks.now c.requires.main c.loop-k.k c.in-Output.name c.in-Output.node c.in-Output.fallible c.in-Output.wide at c.clock_of-clock.result c.clock_of-clock.ensures (length c.args.engines.now) c.requires.size

pub cues-requires : goal.cues-requires
cues-requires g c =
    let low : c.loop-k.k < length c.args.plan.now.sinks = omega (arith, ap length c.as_slice-sinks.ensures) in
    let item : c.index-sinks-k.result ≡ slice_index_or c.args.plan.now.sinks c.loop-k.k c.index-sinks-k.result = c.index-sinks-k.is ∙ ap (λ (xs : List SinkPlan). slice_index_or xs c.loop-k.k c.index-sinks-k.result) c.as_slice-sinks.ensures in
    let at : slice_get c.args.plan.now.sinks c.loop-k.k ≡ Some (Output c.in-Output.name c.in-Output.node c.in-Output.fallible c.in-Output.wide) = got c.args.plan.now.sinks c.loop-k.k c.index-sinks-k.result low ∙ ap Some (sym item ∙ c.in-Output.is) in
    let below = main_below c.args.plan.now c.args.clocks.now c.requires.main c.loop-k.k c.in-Output.name c.in-Output.node c.in-Output.fallible c.in-Output.wide at c.clock_of-clock.result c.clock_of-clock.ensures (length c.args.engines.now) c.requires.size in
    let there : slice_get c.args.engines.now c.clock_of-clock.result ≡ Some c.index-engines-clock.result = got c.args.engines.now c.clock_of-clock.result c.index-engines-clock.result below ∙ ap Some (sym c.index-engines-clock.is) in
    record {
      output = (
        c.in-Output.node,
        output_here c.args.plan.now c.args.clocks.now c.requires.stand.0 c.requires.stand.1 c.requires.stand.2 c.requires.stand.3 c.requires.stand.4 c.loop-k.k c.in-Output.name c.in-Output.node c.in-Output.fallible c.in-Output.wide at
            c.clock_of-clock.result c.clock_of-clock.ensures c.index-engines-clock.result (c.requires.stand.5.each c.clock_of-clock.result c.index-engines-clock.result there),
      );
    }

pub loop-k-preserved : goal.loop-k-preserved
loop-k-preserved g c =
    let low : c.loop-k.k < length c.args.plan.now.sinks = omega (arith, ap length c.as_slice-sinks.ensures) in
    let item : c.index-sinks-k.result ≡ slice_index_or c.args.plan.now.sinks c.loop-k.k c.index-sinks-k.result = c.index-sinks-k.is ∙ ap (λ (xs : List SinkPlan). slice_index_or xs c.loop-k.k c.index-sinks-k.result) c.as_slice-sinks.ensures in
    let at : slice_get c.args.plan.now.sinks c.loop-k.k ≡ Some (Output c.in-Output.name c.in-Output.node c.in-Output.fallible c.in-Output.wide) = got c.args.plan.now.sinks c.loop-k.k c.index-sinks-k.result low ∙ ap Some (sym item ∙ c.in-Output.is) in
    let below = main_below c.args.plan.now c.args.clocks.now c.requires.main c.loop-k.k c.in-Output.name c.in-Output.node c.in-Output.fallible c.in-Output.wide at c.clock_of-clock.result c.clock_of-clock.ensures (length c.args.engines.now) c.requires.size in
    let there : slice_get c.args.engines.now c.clock_of-clock.result ≡ Some c.index-engines-clock.result = got c.args.engines.now c.clock_of-clock.result c.index-engines-clock.result below ∙ ap Some (sym c.index-engines-clock.is) in
    let items : c.push.new.self.items ≡ c.loop-k.all.items ++ c.in_ok-copied.field-0 ∷ [] = search rules in
    λ setting world ticks plan_is clocks_is engines.
    marks_more c.loop-k.all.items c.push.new.self.items _ items world ticks c.args.plan.now.sinks c.loop-k.k (c.loop-k.invariant setting world ticks plan_is clocks_is engines) c.in-Output.name c.in-Output.node c.in-Output.fallible c.in-Output.wide at
    c.cues.result.now c.in_ok-copied.ensures
    (marks_here c.args.plan.now c.args.clocks.now setting world ticks plan_is clocks_is c.loop-k.k c.in-Output.name c.in-Output.node c.in-Output.fallible c.in-Output.wide at c.clock_of-clock.result c.clock_of-clock.ensures
    c.index-engines-clock.result (engines.each c.clock_of-clock.result c.index-engines-clock.result there) c.cues.result.now c.cues.ensures.made (c.requires.keeping c.clock_of-clock.result c.index-engines-clock.result there))
