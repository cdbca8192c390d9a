use Rattle.std.proofs.Common.{rules, arith, List, ◌≡◌, ◌<◌, ◌+◌, ◌*◌, ◌∙◌, length, slice_get, slice_index_or, ap, sym, subst}
use Rattle.std.specs.Prelude.{Some, string_bytes}
use Rattle.plan_core.specs.declared.sink.SinkPlan.{SinkPlan}
use Rattle.plan_core.specs.declared.sink.SinkPlan.TheVariants.{Output, Feed}
use Rattle.station_render.proofs.Lists.{got}
use Rattle.station_render.proofs.Creating.{written_still}
use Rattle.station_render.proofs.Reporting.{one_place, place_below}
use Rattle.station_jobs.proofs.Summing.{line_more, lines_still}
use Rattle.station_jobs.proofs.summary.summary.Goals as goal

pub loop-sink-preserved-in_default : goal.loop-sink-preserved-in_default
loop-sink-preserved-in_default c =
    let low : c.loop-sink.sink-index < length c.args.plan.now.sinks = subst (λ (xs : List SinkPlan). c.loop-sink.sink-index < length xs) c.as_slice-sink-items.ensures c.loop-sink-test.true in
    let item : c.sink-item.result ≡ slice_index_or c.args.plan.now.sinks c.loop-sink.sink-index c.sink-item.result = c.sink-item.is ∙ ap (λ (xs : List SinkPlan). slice_index_or xs c.loop-sink.sink-index c.sink-item.result) c.as_slice-sink-items.ensures in
    let at : slice_get c.args.plan.now.sinks c.loop-sink.sink-index ≡ Some (Feed c.in_default.field-0 c.in_default.field-1) =
    got c.args.plan.now.sinks c.loop-sink.sink-index c.sink-item.result low ∙ ap Some (sym item ∙ c.in_default.is) in
    record {
      place = c.loop-sink.invariant.place ∙ sym (ap length (written_still c.args.plan.now.sinks c.loop-sink.sink-index c.in_default.field-0 c.in_default.field-1 at));
      told = λ station run plan ticks counts.
          c.loop-sink.invariant.told station run plan ticks counts ∙ sym (lines_still station run c.args.shelf.now c.args.plan.now.sinks c.loop-sink.sink-index c.in_default.field-0 c.in_default.field-1 at);
    }

pub bounds-gaps-place : goal.bounds-gaps-place
bounds-gaps-place c =
    let low : c.loop-sink.sink-index < length c.args.plan.now.sinks = subst (λ (xs : List SinkPlan). c.loop-sink.sink-index < length xs) c.as_slice-sink-items.ensures c.loop-sink-test.true in
    let item : c.sink-item.result ≡ slice_index_or c.args.plan.now.sinks c.loop-sink.sink-index c.sink-item.result = c.sink-item.is ∙ ap (λ (xs : List SinkPlan). slice_index_or xs c.loop-sink.sink-index c.sink-item.result) c.as_slice-sink-items.ensures in
    let at : slice_get c.args.plan.now.sinks c.loop-sink.sink-index ≡ Some (Output c.in-Output.name c.in-Output.node c.in-Output.fallible c.in-Output.wide) =
    got c.args.plan.now.sinks c.loop-sink.sink-index c.sink-item.result low ∙ ap Some (sym item ∙ c.in-Output.is) in
    let below = place_below c.args.plan.now.sinks c.loop-sink.sink-index c.in-Output.name c.in-Output.node c.in-Output.fallible c.in-Output.wide at in
    omega (arith, below, c.loop-sink.invariant.place, c.requires.many)

pub offset_bounds-gaps-place : goal.offset_bounds-gaps-place
offset_bounds-gaps-place c =
    let low : c.loop-sink.sink-index < length c.args.plan.now.sinks = subst (λ (xs : List SinkPlan). c.loop-sink.sink-index < length xs) c.as_slice-sink-items.ensures c.loop-sink-test.true in
    let item : c.sink-item.result ≡ slice_index_or c.args.plan.now.sinks c.loop-sink.sink-index c.sink-item.result = c.sink-item.is ∙ ap (λ (xs : List SinkPlan). slice_index_or xs c.loop-sink.sink-index c.sink-item.result) c.as_slice-sink-items.ensures in
    let at : slice_get c.args.plan.now.sinks c.loop-sink.sink-index ≡ Some (Output c.in-Output.name c.in-Output.node c.in-Output.fallible c.in-Output.wide) =
    got c.args.plan.now.sinks c.loop-sink.sink-index c.sink-item.result low ∙ ap Some (sym item ∙ c.in-Output.is) in
    let below = place_below c.args.plan.now.sinks c.loop-sink.sink-index c.in-Output.name c.in-Output.node c.in-Output.fallible c.in-Output.wide at in
    let inside : c.loop-sink.place < length c.args.gaps.now = omega (arith, below, c.loop-sink.invariant.place, c.requires.many) in
    search (rules, arith)

pub overflow_add-place : goal.overflow_add-place
overflow_add-place c =
    let low : c.loop-sink.sink-index < length c.args.plan.now.sinks = subst (λ (xs : List SinkPlan). c.loop-sink.sink-index < length xs) c.as_slice-sink-items.ensures c.loop-sink-test.true in
    let item : c.sink-item.result ≡ slice_index_or c.args.plan.now.sinks c.loop-sink.sink-index c.sink-item.result = c.sink-item.is ∙ ap (λ (xs : List SinkPlan). slice_index_or xs c.loop-sink.sink-index c.sink-item.result) c.as_slice-sink-items.ensures in
    let at : slice_get c.args.plan.now.sinks c.loop-sink.sink-index ≡ Some (Output c.in-Output.name c.in-Output.node c.in-Output.fallible c.in-Output.wide) =
    got c.args.plan.now.sinks c.loop-sink.sink-index c.sink-item.result low ∙ ap Some (sym item ∙ c.in-Output.is) in
    let below = place_below c.args.plan.now.sinks c.loop-sink.sink-index c.in-Output.name c.in-Output.node c.in-Output.fallible c.in-Output.wide at in
    let inside : c.loop-sink.place < length c.args.gaps.now = omega (arith, below, c.loop-sink.invariant.place, c.requires.many) in
    search (rules, arith)

pub loop-sink-preserved : goal.loop-sink-preserved
loop-sink-preserved c =
    let low : c.loop-sink.sink-index < length c.args.plan.now.sinks = subst (λ (xs : List SinkPlan). c.loop-sink.sink-index < length xs) c.as_slice-sink-items.ensures c.loop-sink-test.true in
    let item : c.sink-item.result ≡ slice_index_or c.args.plan.now.sinks c.loop-sink.sink-index c.sink-item.result = c.sink-item.is ∙ ap (λ (xs : List SinkPlan). slice_index_or xs c.loop-sink.sink-index c.sink-item.result) c.as_slice-sink-items.ensures in
    let at : slice_get c.args.plan.now.sinks c.loop-sink.sink-index ≡ Some (Output c.in-Output.name c.in-Output.node c.in-Output.fallible c.in-Output.wide) =
    got c.args.plan.now.sinks c.loop-sink.sink-index c.sink-item.result low ∙ ap Some (sym item ∙ c.in-Output.is) in
    record {
      place = ap (λ n. n + 1) c.loop-sink.invariant.place ∙ sym (one_place c.args.plan.now.sinks c.loop-sink.sink-index c.in-Output.name c.in-Output.node c.in-Output.fallible c.in-Output.wide at);
      told = λ station run plan_is ticks_is counts.
          line_more station run c.args.plan.now c.args.shelf.now c.args.ticks c.args.gaps.now c.loop-sink.sink-index c.in-Output.name c.in-Output.node c.in-Output.fallible c.in-Output.wide c.loop-sink.place at c.loop-sink.invariant.place
          plan_is ticks_is counts (string_bytes c.loop-sink.text) (string_bytes c.push_counts.new.text) (string_bytes c.push_sum.new.text) c.as_str-name.result.now _ c.as_str-name.ensures.same
          (ap (λ n. c.args.ticks * n) c.from.ensures) c.in_ok-push_counts.ensures c.in_ok-push_sum.ensures (c.loop-sink.invariant.told station run plan_is ticks_is counts);
    }
