use Rattle.std.proofs.Common.{◌≡◌, ◌∙◌, ℕ, List, length, ap, sym, subst}
use Rattle.std.proofs.lemmas.Result.{err_from_is_err_and}
use Rattle.stations.specs.Stations.{answers_with}
use Rattle.station_render.specs.Sinks.{AreCreated, lists_of}
use Rattle.trace_records.specs.Traces.{base_of}
use Rattle.station_render.specs.Renders.{IsReady, order_of, written}
use Rattle.station_render.specs.Runs.{RanPart, name_in, station_in}
use Rattle.station_render.specs.declared.output_sink.OutputSink.{OutputSink}
use Rattle.station_render.proofs.Fits.{are_main}
use Rattle.station_render.proofs.Gathering.{not_begun}
use Rattle.station_render.proofs.Pooling.{outs_many}
use Rattle.station_render.proofs.Returning.{in_main, starved}
use Rattle.station_render.proofs.Running.{many_sinks}
use Rattle.station_render.proofs.opened.open_all.Goals as goal

pub returns-in_err-create_each-clause-part : goal.returns-in_err-create_each-clause-part
returns-in_err-create_each-clause-part g c =
    let p = err_from_is_err_and c.from_residual.result c.from_residual.ensures.1 in rw p.1
    (λ way may.
    let none = not_begun (base_of c.args.job.now.plan c.args.job.now.ready.library c.args.job.now.ready.clocks c.args.job.now.start.second) c.args.job.now.ready.clocks.running c.args.job.now.ticks way may in (
      record {
        run = none.run;
        begun = none.begun;
        parts = c.create_each.ensures.begun c.args.job.now.ready.library c.args.job.now.start.second (answers_with way none.run) _ _ none.none;
      },
      none.none,
    ))

pub make_engines-requires-clause-sinks : goal.make_engines-requires-clause-sinks
make_engines-requires-clause-sinks g c =
    let setting = base_of c.args.job.now.plan c.args.job.now.ready.library c.args.job.now.ready.clocks c.args.job.now.start.second in
    let main = are_main c.args.job.now.plan c.args.job.now.ready.library c.args.job.now.ready.clocks c.args.job.now.ticks c.requires.fit in
    let ready : AreCreated (IsReady g.S.Out.Sink.told (g.S.Shelf.told c.args.shelf.now) setting c.args.job.now.ticks) (written c.args.job.now.plan.sinks) (order_of setting (written c.args.job.now.plan.sinks)) (lists_of c.create_each.new.groups.items) =
    subst (λ o. AreCreated (IsReady g.S.Out.Sink.told (g.S.Shelf.told c.args.shelf.now) setting c.args.job.now.ticks) (written c.args.job.now.plan.sinks) o (lists_of c.create_each.new.groups.items))
    (c.in_ok-create_each.ensures.order c.args.job.now.ready.library c.args.job.now.start.second) (c.in_ok-create_each.ensures.ready c.args.job.now.ready.library c.args.job.now.start.second) in
    λ clock group at.
    many_sinks setting c.args.job.now.ticks (in_main c.args.job.now.plan c.args.job.now.ready.library c.args.job.now.ready.clocks c.args.job.now.start.second c.args.job.now.ticks main)
    (IsReady g.S.Out.Sink.told (g.S.Shelf.told c.args.shelf.now) setting c.args.job.now.ticks) (lists_of c.create_each.new.groups.items) ready clock group at

pub returns-in_err-make_engines-clause-part : goal.returns-in_err-make_engines-clause-part
returns-in_err-make_engines-clause-part g c =
    let p = err_from_is_err_and c.from_residual-in_err-make_engines.result c.from_residual-in_err-make_engines.ensures.1 in
    let setting = base_of c.args.job.now.plan c.args.job.now.ready.library c.args.job.now.ready.clocks c.args.job.now.start.second in
    let order_is = c.in_ok-create_each.ensures.order c.args.job.now.ready.library c.args.job.now.start.second in
    let ready : AreCreated (IsReady g.S.Out.Sink.told (g.S.Shelf.told c.args.shelf.now) setting c.args.job.now.ticks) (written c.args.job.now.plan.sinks) (order_of setting (written c.args.job.now.plan.sinks)) (lists_of c.create_each.new.groups.items) =
    subst (λ o. AreCreated (IsReady g.S.Out.Sink.told (g.S.Shelf.told c.args.shelf.now) setting c.args.job.now.ticks) (written c.args.job.now.plan.sinks) o (lists_of c.create_each.new.groups.items))
    order_is (c.in_ok-create_each.ensures.ready c.args.job.now.ready.library c.args.job.now.start.second) in
    rw p.1 (λ way may.
    subst (λ (z : List ℕ × List (List (OutputSink g.row.S-Out.Denot))). (ran : RanPart g.S.Out.Sink.told (g.S.Shelf.told c.args.shelf.now) (station_in c.args.job.now way) z.0 z.1 (g.S.Shelf.told c.create_each.new.shelf).created) × ((m : ℕ) → ran.begun.made m ≡ 0))
    (λ i. (sym order_is i, sym c.in_err-make_engines.ensures.back i))
    (starved c.args.job.now.plan c.args.job.now.ready.library c.args.job.now.ready.clocks c.args.job.now.start.second c.args.job.now.ticks g.S.Out.Sink.told (g.S.Shelf.told c.args.shelf.now)
    (lists_of c.create_each.new.groups.items) way (name_in c.args.job.now) c.args.job.now.cues may _ c.in_ok-create_each.ensures.made ready))

pub returns-clause-opened : goal.returns-clause-opened
returns-clause-opened g c =
    let setting = base_of c.args.job.now.plan c.args.job.now.ready.library c.args.job.now.ready.clocks c.args.job.now.start.second in
    let order_is = c.in_ok-create_each.ensures.order c.args.job.now.ready.library c.args.job.now.start.second in
    let engines = c.in_ok-make_engines.field-0.items in
    let many : length engines ≡ length (lists_of c.create_each.new.groups.items) = sym (outs_many engines) ∙ ap length c.in_ok-make_engines.ensures.outs in
    record {
      order_is = order_is;
      all = many ∙ c.create_each.ensures.size;
      at = c.in_ok-make_engines.ensures.made;
      ready = subst (λ (z : List ℕ × List (List (OutputSink g.row.S-Out.Denot))). AreCreated (IsReady g.S.Out.Sink.told (g.S.Shelf.told c.args.shelf.now) setting c.args.job.now.ticks) (written c.args.job.now.plan.sinks) z.0 z.1)
          (λ i. (order_is i, sym c.in_ok-make_engines.ensures.outs i)) (c.in_ok-create_each.ensures.ready c.args.job.now.ready.library c.args.job.now.start.second);
      many = c.in_ok-make_engines.ensures.size ∙ sym many;
      taken = c.in_ok-make_engines.ensures.taken;
    }
