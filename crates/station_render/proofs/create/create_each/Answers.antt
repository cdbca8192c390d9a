use Rattle.std.proofs.Common.{arith, List, ◌≡◌, ◌<◌, ◌≤◌, ◌+◌, ◌∙◌, length, take, slice_get, slice_index_or, ap, sym, subst}
use Rattle.std.specs.Prelude.{Some}
use Rattle.plan_core.specs.declared.sink.SinkPlan.{SinkPlan}
use Rattle.plan_core.specs.declared.sink.SinkPlan.TheVariants.{Output, Feed}
use Rattle.station_render.specs.Sinks.{lists_of}
use Rattle.trace_records.specs.Traces.{base_of}
use Rattle.station_render.specs.Renders.{order_of, written}
use Rattle.station_render.proofs.Lists.{got}
use Rattle.station_render.proofs.Fits.{are_main, clock_below, header_fits}
use Rattle.station_render.proofs.Creating.{added_many, begun_broken, begun_here, created_by, creates_then, next_ready, order_more, take_whole, written_next, written_still}
use Rattle.station_render.proofs.Naming.{made_next, made_still, made_whole}
use Rattle.station_render.proofs.create.create_each.Goals as goal

pub loop-sink-preserved-in_default : goal.loop-sink-preserved-in_default
loop-sink-preserved-in_default g c =
    let low : c.loop-sink.sink-index < length c.args.plan.now.sinks = subst (λ (xs : List SinkPlan). c.loop-sink.sink-index < length xs) c.as_slice-sink-items.ensures c.loop-sink-test.true in
    let item : c.sink-item.result ≡ slice_index_or c.args.plan.now.sinks c.loop-sink.sink-index c.sink-item.result = c.sink-item.is ∙ ap (λ (xs : List SinkPlan). slice_index_or xs c.loop-sink.sink-index c.sink-item.result) c.as_slice-sink-items.ensures in
    let at : slice_get c.args.plan.now.sinks c.loop-sink.sink-index ≡ Some (Feed c.in_default.field-0 c.in_default.field-1) =
    got c.args.plan.now.sinks c.loop-sink.sink-index c.sink-item.result low ∙ ap Some (sym item ∙ c.in_default.is) in
    let same = written_still c.args.plan.now.sinks c.loop-sink.sink-index c.in_default.field-0 c.in_default.field-1 at in
    record {
      created = λ library start. created_by (written (take c.loop-sink.sink-index c.args.plan.now.sinks)) (written (take (c.loop-sink.sink-index + 1) c.args.plan.now.sinks)) _ _ same
          (c.loop-sink.invariant.created library start);
      order = λ library start. c.loop-sink.invariant.order library start ∙ ap (order_of (base_of c.args.plan.now library c.args.clocks.now start)) (sym same);
      size = c.loop-sink.invariant.size;
      made = made_still c.args.plan.now.sinks c.loop-sink.sink-index _ _ c.loop-sink.invariant.made c.in_default.field-0 c.in_default.field-1 at;
      shelf = c.loop-sink.invariant.shelf;
    }

pub opening_of-opening-requires-clause-clock : goal.opening_of-opening-requires-clause-clock
opening_of-opening-requires-clause-clock g c =
    let low : c.loop-sink.sink-index < length c.args.plan.now.sinks = subst (λ (xs : List SinkPlan). c.loop-sink.sink-index < length xs) c.as_slice-sink-items.ensures c.loop-sink-test.true in
    let item : c.sink-item.result ≡ slice_index_or c.args.plan.now.sinks c.loop-sink.sink-index c.sink-item.result = c.sink-item.is ∙ ap (λ (xs : List SinkPlan). slice_index_or xs c.loop-sink.sink-index c.sink-item.result) c.as_slice-sink-items.ensures in
    let at : slice_get c.args.plan.now.sinks c.loop-sink.sink-index ≡ Some (Output c.in-Output.name c.in-Output.node c.in-Output.fallible c.in-Output.wide) =
    got c.args.plan.now.sinks c.loop-sink.sink-index c.sink-item.result low ∙ ap Some (sym item ∙ c.in-Output.is) in
    let main = are_main c.args.plan.now c.requires.fit.0 c.args.clocks.now c.args.ticks c.requires.fit.1 c.loop-sink.sink-index c.in-Output.name c.in-Output.node c.in-Output.fallible c.in-Output.wide at in
    (main.0, main.2)

pub opening_of-opening-requires-clause-fits : goal.opening_of-opening-requires-clause-fits
opening_of-opening-requires-clause-fits g c =
    let low : c.loop-sink.sink-index < length c.args.plan.now.sinks = subst (λ (xs : List SinkPlan). c.loop-sink.sink-index < length xs) c.as_slice-sink-items.ensures c.loop-sink-test.true in
    let item : c.sink-item.result ≡ slice_index_or c.args.plan.now.sinks c.loop-sink.sink-index c.sink-item.result = c.sink-item.is ∙ ap (λ (xs : List SinkPlan). slice_index_or xs c.loop-sink.sink-index c.sink-item.result) c.as_slice-sink-items.ensures in
    let at : slice_get c.args.plan.now.sinks c.loop-sink.sink-index ≡ Some (Output c.in-Output.name c.in-Output.node c.in-Output.fallible c.in-Output.wide) =
    got c.args.plan.now.sinks c.loop-sink.sink-index c.sink-item.result low ∙ ap Some (sym item ∙ c.in-Output.is) in
    header_fits c.args.plan.now c.requires.fit.0 c.args.clocks.now c.args.ticks c.requires.fit.1 c.loop-sink.sink-index c.in-Output.name c.in-Output.node c.in-Output.fallible c.in-Output.wide at

pub create_one-requires-clause-below : goal.create_one-requires-clause-below
create_one-requires-clause-below g c κs within =
    let low : c.loop-sink.sink-index < length c.args.plan.now.sinks = subst (λ (xs : List SinkPlan). c.loop-sink.sink-index < length xs) c.as_slice-sink-items.ensures c.loop-sink-test.true in
    let item : c.sink-item.result ≡ slice_index_or c.args.plan.now.sinks c.loop-sink.sink-index c.sink-item.result = c.sink-item.is ∙ ap (λ (xs : List SinkPlan). slice_index_or xs c.loop-sink.sink-index c.sink-item.result) c.as_slice-sink-items.ensures in
    let at : slice_get c.args.plan.now.sinks c.loop-sink.sink-index ≡ Some (Output c.in-Output.name c.in-Output.node c.in-Output.fallible c.in-Output.wide) =
    got c.args.plan.now.sinks c.loop-sink.sink-index c.sink-item.result low ∙ ap Some (sym item ∙ c.in-Output.is) in
    clock_below c.args.plan.now c.requires.fit.0 c.args.clocks.now c.args.ticks c.requires.fit.1 c.loop-sink.sink-index c.in-Output.name c.in-Output.node c.in-Output.fallible c.in-Output.wide at
    c.opening_of-opening.result.clock c.opening_of-opening.ensures.clock (length (lists_of c.loop-sink.groups.items)) c.loop-sink.invariant.size

pub returns-in_err-create_one-clause-begun : goal.returns-in_err-create_one-clause-begun
returns-in_err-create_one-clause-begun g c =
    let low : c.loop-sink.sink-index < length c.args.plan.now.sinks = subst (λ (xs : List SinkPlan). c.loop-sink.sink-index < length xs) c.as_slice-sink-items.ensures c.loop-sink-test.true in
    let item : c.sink-item.result ≡ slice_index_or c.args.plan.now.sinks c.loop-sink.sink-index c.sink-item.result = c.sink-item.is ∙ ap (λ (xs : List SinkPlan). slice_index_or xs c.loop-sink.sink-index c.sink-item.result) c.as_slice-sink-items.ensures in
    let at : slice_get c.args.plan.now.sinks c.loop-sink.sink-index ≡ Some (Output c.in-Output.name c.in-Output.node c.in-Output.fallible c.in-Output.wide) =
    got c.args.plan.now.sinks c.loop-sink.sink-index c.sink-item.result low ∙ ap Some (sym item ∙ c.in-Output.is) in
    let below = clock_below c.args.plan.now c.requires.fit.0 c.args.clocks.now c.args.ticks c.requires.fit.1 c.loop-sink.sink-index c.in-Output.name c.in-Output.node c.in-Output.fallible c.in-Output.wide at
    c.opening_of-opening.result.clock c.opening_of-opening.ensures.clock (length (lists_of c.loop-sink.groups.items)) c.loop-sink.invariant.size in
    λ library start answers made tried none. begun_broken g.S.Out.Sink.told (g.S.Shelf.told c.args.shelf.now) (base_of c.args.plan.now library c.args.clocks.now start) c.args.ticks answers made tried none
    c.loop-sink.sink-index c.in-Output.name c.as_str.result.now c.in-Output.node c.in-Output.fallible c.in-Output.wide
    c.opening_of-opening.result.clock c.opening_of-opening.result.header c.loop-sink.order.items c.create_one.new.order.items
    (lists_of c.loop-sink.groups.items) (lists_of c.create_one.new.groups.items) below at c.as_str.ensures.same c.opening_of-opening.ensures.header (c.loop-sink.invariant.created library start)
    _ c.loop-sink.invariant.shelf _ c.loop-sink.invariant.made c.in_err-create_one.ensures.broken

pub loop-sink-preserved : goal.loop-sink-preserved
loop-sink-preserved g c =
    let low : c.loop-sink.sink-index < length c.args.plan.now.sinks = subst (λ (xs : List SinkPlan). c.loop-sink.sink-index < length xs) c.as_slice-sink-items.ensures c.loop-sink-test.true in
    let item : c.sink-item.result ≡ slice_index_or c.args.plan.now.sinks c.loop-sink.sink-index c.sink-item.result = c.sink-item.is ∙ ap (λ (xs : List SinkPlan). slice_index_or xs c.loop-sink.sink-index c.sink-item.result) c.as_slice-sink-items.ensures in
    let at : slice_get c.args.plan.now.sinks c.loop-sink.sink-index ≡ Some (Output c.in-Output.name c.in-Output.node c.in-Output.fallible c.in-Output.wide) =
    got c.args.plan.now.sinks c.loop-sink.sink-index c.sink-item.result low ∙ ap Some (sym item ∙ c.in-Output.is) in
    let below = clock_below c.args.plan.now c.requires.fit.0 c.args.clocks.now c.args.ticks c.requires.fit.1 c.loop-sink.sink-index c.in-Output.name c.in-Output.node c.in-Output.fallible c.in-Output.wide at
    c.opening_of-opening.result.clock c.opening_of-opening.ensures.clock (length (lists_of c.loop-sink.groups.items)) c.loop-sink.invariant.size in
    let made = c.in_ok-create_one.ensures.created in
    record {
      created = λ library start. next_ready g.S.Out.Sink.told (g.S.Shelf.told c.args.shelf.now) _ c.loop-sink.invariant.shelf
          (base_of c.args.plan.now library c.args.clocks.now start) c.args.ticks c.loop-sink.sink-index c.in-Output.name c.as_str.result.now c.in-Output.node c.in-Output.fallible c.in-Output.wide at c.as_str.ensures.same
          c.opening_of-opening.result.clock c.opening_of-opening.result.header c.opening_of-opening.result.body c.loop-sink.order.items c.create_one.new.order.items
          (lists_of c.loop-sink.groups.items) (lists_of c.create_one.new.groups.items) below c.opening_of-opening.ensures.header c.opening_of-opening.ensures.body (c.loop-sink.invariant.created library start) _ _ made;
      order = λ library start.
          order_more (base_of c.args.plan.now library c.args.clocks.now start) (written (take c.loop-sink.sink-index c.args.plan.now.sinks)) (record { name = c.in-Output.name; node = c.in-Output.node; wide = c.in-Output.wide })
          c.opening_of-opening.result.clock c.loop-sink.order.items c.create_one.new.order.items (c.loop-sink.invariant.order library start) made.order_is c.opening_of-opening.ensures.clock
          ∙ ap (order_of (base_of c.args.plan.now library c.args.clocks.now start)) (sym (written_next c.args.plan.now.sinks c.loop-sink.sink-index c.in-Output.name c.in-Output.node c.in-Output.fallible c.in-Output.wide at));
      size = added_many c.opening_of-opening.result.clock made.sink (lists_of c.loop-sink.groups.items) (lists_of c.create_one.new.groups.items) made.added ∙ c.loop-sink.invariant.size;
      made = made_next c.args.plan.now.sinks c.loop-sink.sink-index _ _ c.loop-sink.invariant.made c.in-Output.name c.as_str.result.now c.in-Output.node c.in-Output.fallible c.in-Output.wide at c.as_str.ensures.same _
          made.made_is;
      shelf = creates_then _ _ _ c.loop-sink.invariant.shelf c.create_one.ensures.shelf;
    }

pub returns-in_err-create_one-clause-shelf : goal.returns-in_err-create_one-clause-shelf
returns-in_err-create_one-clause-shelf g c = creates_then _ _ _ c.loop-sink.invariant.shelf c.create_one.ensures.shelf

pub returns-clause-ready : goal.returns-clause-ready
returns-clause-ready g c =
    let all : length c.args.plan.now.sinks ≤ c.loop-sink.sink-index = subst (λ (xs : List SinkPlan). length xs ≤ c.loop-sink.sink-index) c.as_slice-sink-items.ensures c.loop-sink-test.false in
    λ library start. created_by (written (take c.loop-sink.sink-index c.args.plan.now.sinks)) (written c.args.plan.now.sinks) _ _ (sym (ap written (take_whole c.args.plan.now.sinks c.loop-sink.sink-index all)))
    (c.loop-sink.invariant.created library start)

pub returns-clause-order : goal.returns-clause-order
returns-clause-order g c =
    let all : length c.args.plan.now.sinks ≤ c.loop-sink.sink-index = subst (λ (xs : List SinkPlan). length xs ≤ c.loop-sink.sink-index) c.as_slice-sink-items.ensures c.loop-sink-test.false in
    λ library start. c.loop-sink.invariant.order library start ∙ ap (λ sinks. order_of (base_of c.args.plan.now library c.args.clocks.now start) (written sinks)) (take_whole c.args.plan.now.sinks c.loop-sink.sink-index all)

pub returns-clause-begun : goal.returns-clause-begun
returns-clause-begun g c =
    let all : length c.args.plan.now.sinks ≤ c.loop-sink.sink-index = subst (λ (xs : List SinkPlan). length xs ≤ c.loop-sink.sink-index) c.as_slice-sink-items.ensures c.loop-sink-test.false in
    λ library start answers made tried none. begun_here g.S.Out.Sink.told (g.S.Shelf.told c.args.shelf.now)
    (base_of c.args.plan.now library c.args.clocks.now start) c.args.ticks answers made tried none c.loop-sink.sink-index c.loop-sink.order.items (lists_of c.loop-sink.groups.items) _ c.loop-sink.invariant.made (c.loop-sink.invariant.created library start)

pub returns-clause-made : goal.returns-clause-made
returns-clause-made g c =
    let all : length c.args.plan.now.sinks ≤ c.loop-sink.sink-index = subst (λ (xs : List SinkPlan). length xs ≤ c.loop-sink.sink-index) c.as_slice-sink-items.ensures c.loop-sink-test.false in
    made_whole c.args.plan.now.sinks c.loop-sink.sink-index _ _ c.loop-sink.invariant.made all
