use Rattle.std.proofs.Common.{◌≡◌, ◌∙◌, ℕ, ap, arith, rules, inl, refl, sym, subst}
use Rattle.std.proofs.lemmas.Result.{err_from_is_err_and}
use Rattle.std.specs.Prelude.{Err, []}
use Rattle.std.specs.Option.{ForSome}
use Rattle.stations.proofs.Making.{none_made}
use Rattle.stations.proofs.Parts.{none_written}
use Rattle.stations.specs.Renderings.{WrotePart}
use Rattle.stations.specs.Stations.{InRounds}
use Rattle.station_render.specs.Faults.{is_device}
use Rattle.station_render.specs.OutputSinks.{inner}
use Rattle.station_render.specs.Renders.{IsPart}
use Rattle.station_render.specs.Runs.{RanPart, setting_by, station_in}
use Rattle.station_render.specs.Sinks.{HasFailed, HaveSizes, lists_of}
use Rattle.station_render.proofs.Closing.{on_err_so}
use Rattle.station_render.proofs.Dealing.{sizes}
use Rattle.station_render.proofs.Ending.{cause_later}
use Rattle.station_render.proofs.Gathering.{not_begun}
use Rattle.station_render.proofs.Listing.{front_closed}
use Rattle.station_render.proofs.Staging.{device_is, err_same, ready_of}
use Rattle.station_render.proofs.opened.open_outputs.Goals as goal

pub returns-in_err-groups-clause-part : goal.returns-in_err-groups-clause-part
returns-in_err-groups-clause-part g c =
    let p = err_from_is_err_and c.from_residual.result c.from_residual.ensures.1 in rw (p.1, p.2)
    (λ way may.
    let none = not_begun (setting_by c.args.job.now) c.args.job.now.ready.clocks.running c.args.job.now.ticks way may in
    λ files at. inl (none_written (station_in c.args.job.now way) none.run none.begun none.none _ _ (omega arith) refl refl refl files at))

pub returns-in_err-groups-clause-front : goal.returns-in_err-groups-clause-front
returns-in_err-groups-clause-front g c = on_err_so _ _ (none_made _ _ _ refl refl)

pub returns-in-Ok-clause-opened : goal.returns-in-Ok-clause-opened
returns-in-Ok-clause-opened g c = record {
  opened = c.in-Ok.ensures.opened;
  ready = ready_of c.requires.fit c.in-Ok.ensures.opened;
  keeping = c.in-Ok.ensures.keeping;
}

pub returns-in-Ok-clause-shelf : goal.returns-in-Ok-clause-shelf
returns-in-Ok-clause-shelf g c = record {
  files_kept = c.open_all.ensures.shelf.files_kept;
  made = c.in-Ok.ensures.made;
  closed_kept = c.open_all.ensures.shelf.closed_kept;
  reads_grew = c.open_all.ensures.shelf.reads_grew;
  writes_grew = c.open_all.ensures.shelf.writes_grew;
}

pub close_broken-requires : goal.close_broken-requires
close_broken-requires g c =
    let ran = (c.in-Err.ensures.part InRounds tt).0 in (
      search rules,
      subst (λ o. HaveSizes o (lists_of c.open_all.new.groups.items)) (sym c.deref.ensures.value)
          (sizes (IsPart g.S.Out.Sink.told (g.S.Shelf.told c.args.shelf.now) _ c.args.job.now.ticks ran.begun.made ran.begun.tried) ran.parts.created c.open_all.new.order.items (lists_of c.open_all.new.groups.items) (ran.parts.parts (λ buffer. []))),
    )

pub returns-clause-part : goal.returns-clause-part
returns-clause-part g c = λ way may.
    subst (λ e. ForSome (g.S.Shelf.told c.args.shelf.now).files (λ files. WrotePart (station_in c.args.job.now way) (is_device e) files (g.S.Shelf.told c.args.shelf.now) (g.S.Shelf.told c.close_broken.new.shelf))) (sym c.close_broken.ensures.same)
    (let ran = subst (λ o. (ran : RanPart g.S.Out.Sink.told (g.S.Shelf.told c.args.shelf.now) (station_in c.args.job.now way) o (lists_of c.open_all.new.groups.items)
    (g.S.Shelf.told c.open_all.new.shelf).created) × ((m : ℕ) → ran.begun.made m ≡ 0)) (sym c.deref.ensures.value) (c.in-Err.ensures.part way may) in
    c.close_broken.ensures.part (station_in c.args.job.now way) (g.S.Shelf.told c.args.shelf.now) c.open_all.ensures.shelf ran.0 ran.1
    (λ device. c.in-Err.ensures.cause (ap Err (device_is _ device))))

pub returns-clause-cause : goal.returns-clause-cause
returns-clause-cause g c = λ e.
    cause_later (g.S.Shelf.told c.args.shelf.now).writes _ _ (HasFailed (inner g.S.Out.Sink.told) (lists_of c.open_all.new.groups.items)) c.open_all.ensures.shelf.writes_grew c.close_broken.ensures.shelf.writes_grew
    (c.in-Err.ensures.cause (ap Err (sym c.close_broken.ensures.same ∙ err_same _ _ e))) c.close_broken.ensures.failed

pub returns-clause-front : goal.returns-clause-front
returns-clause-front g c =
    let ran = (c.in-Err.ensures.part InRounds tt).0 in
    front_closed g.S.Out.Sink.told (g.S.Shelf.told c.args.shelf.now) (g.S.Shelf.told c.open_all.new.shelf) (g.S.Shelf.told c.close_broken.new.shelf) (setting_by c.args.job.now) _ c.args.job.now.ticks ran.begun.made ran.begun.tried c.open_all.new.order.items _ (lists_of c.open_all.new.groups.items)
    c.deref.ensures.value c.open_all.ensures.shelf.closed_kept c.close_broken.ensures.shelf.created_kept ran.parts c.close_broken.ensures.closed
