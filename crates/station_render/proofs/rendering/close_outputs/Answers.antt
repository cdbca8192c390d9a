use Rattle.std.proofs.Common.{◌≡◌, ◌∙◌, [], arith, inr, refl, subst, sym}
use Rattle.std.proofs.lemmas.Result.{IfErr-weaker}
use Rattle.std.specs.Prelude.{IfOk, IsErrOf}
use Rattle.stations.specs.Creations.{HaveClosed, names_in}
use Rattle.stations.proofs.Making.{closed_any}
use Rattle.station_render.specs.Listed.{WillClose}
use Rattle.station_render.specs.OutputSinks.{inner}
use Rattle.station_render.specs.Runs.{RanPart, RanWhole, station_in}
use Rattle.station_render.specs.Sinks.{AreCreated, HasFailed, HaveSizes, lists_of}
use Rattle.station_render.specs.declared.fault.RenderFault.TheVariants.{Write}
use Rattle.station_render.proofs.Dealing.{sizes}
use Rattle.station_render.proofs.Ending.{cause_of, rooms_of}
use Rattle.station_render.proofs.Fits.{are_main}
use Rattle.station_render.proofs.Staging.{all_back, closes_after, empty_back, ended_back, failed_after, keep_back, part_after, places_back, whole_after}
use Rattle.station_render.proofs.rendering.close_outputs.Goals as goal

pub take_back-told-requires-clause-main : goal.take_back-told-requires-clause-main
take_back-told-requires-clause-main g c = are_main c.args.job.now.plan c.args.job.now.ready.library c.args.job.now.ready.clocks c.args.job.now.ticks c.requires.fit

pub take_back-told-requires-clause-size : goal.take_back-told-requires-clause-size
take_back-told-requires-clause-size g c = all_back c.requires.fit c.requires.may.2

pub take_back-told-requires-clause-keeping : goal.take_back-told-requires-clause-keeping
take_back-told-requires-clause-keeping g c = keep_back c.requires.fit c.requires.may.2

pub take_back-told-requires-clause-stand : goal.take_back-told-requires-clause-stand
take_back-told-requires-clause-stand g c = ended_back c.requires.fit c.requires.may.2

pub take_back-told-requires-clause-many : goal.take_back-told-requires-clause-many
take_back-told-requires-clause-many g c = places_back c.requires.fit c.requires.may.2

pub take_back-told-requires-clause-empty : goal.take_back-told-requires-clause-empty
take_back-told-requires-clause-empty g c = empty_back c.requires.fit c.requires.may.2

pub close_all-requires-clause-sizes : goal.close_all-requires-clause-sizes
close_all-requires-clause-sizes g c κs lives =
    subst (λ o. HaveSizes o (lists_of c.take_back-told.new.groups.items)) (sym c.deref.ensures.value)
    (sizes (WillClose g.S.Out.Sink.told c.requires.may.1.closed) (names_in c.args.job.now.plan.sinks) c.args.places.order.items (lists_of c.take_back-told.new.groups.items)
    (closes_after c.requires.fit c.requires.may.2 c.take_back-told.ensures.back))

pub close_all-requires-clause-rooms : goal.close_all-requires-clause-rooms
close_all-requires-clause-rooms g c κs lives =
    rooms_of g.S.Out.Sink.told (station_in c.args.job.now c.requires.may.0) c.requires.may.1 c.requires.may.1 c.requires.may.1 (record { files_kept = refl; closed_kept = refl; reads_grew = omega arith; writes_grew = omega arith })
    c.args.places.order.items (lists_of c.take_back-told.new.groups.items) c.take_back-told.result
    (whole_after c.requires.fit c.requires.may.2 c.take_back-told.ensures.back c.take_back-told.result c.take_back-told.ensures.done c.take_back-told.ensures.gaps c.take_back-told.ensures.cues c.take_back-told.ensures.counts c.take_back-told.ensures.logs)

pub returns-clause-done : goal.returns-clause-done
returns-clause-done g c = λ way first opened may.
    let station = station_in c.args.job.now way in
    let few = c.requires.fit.few in
    c.close_all.ensures.done station first (record { files_kept = opened.files_kept; closed_kept = opened.closed_kept; reads_grew = opened.reads_grew; writes_grew = opened.writes_grew }) (omega (arith, few))
    (subst (λ o. IfOk c.take_back-told.result (RanWhole g.S.Out.Sink.told first station o (lists_of c.take_back-told.new.groups.items))) (sym c.deref.ensures.value)
    (whole_after c.requires.fit may c.take_back-told.ensures.back c.take_back-told.result c.take_back-told.ensures.done c.take_back-told.ensures.gaps c.take_back-told.ensures.cues c.take_back-told.ensures.counts c.take_back-told.ensures.logs))

pub returns-clause-part : goal.returns-clause-part
returns-clause-part g c =
    IfErr-weaker c.close_all.result _ _ (λ fault closes way first opened may.
    let station = station_in c.args.job.now way in
    let groups = lists_of c.take_back-told.new.groups.items in
    let made = (g.S.Shelf.told c.args.shelf.now).created in
    let ran = subst (λ o. (ran : RanPart g.S.Out.Sink.told first station o groups made) × (ran.parts.others ≡ [])) (sym c.deref.ensures.value)
    (part_after c.requires.fit may c.take_back-told.ensures.back made opened.made, refl) in
    closes station first (record { files_kept = opened.files_kept; closed_kept = opened.closed_kept; reads_grew = opened.reads_grew; writes_grew = opened.writes_grew }) ran.0 ran.1
    (subst (λ o. IfOk c.take_back-told.result (RanWhole g.S.Out.Sink.told first station o groups)) (sym c.deref.ensures.value)
    (whole_after c.requires.fit may c.take_back-told.ensures.back c.take_back-told.result c.take_back-told.ensures.done c.take_back-told.ensures.gaps c.take_back-told.ensures.cues c.take_back-told.ensures.counts c.take_back-told.ensures.logs)))
    c.close_all.ensures.part

pub returns-clause-cause : goal.returns-clause-cause
returns-clause-cause g c = λ e.
    cause_of (g.S.Shelf.told c.args.shelf.now).writes (g.S.Shelf.told c.args.shelf.now).writes _ (HasFailed (inner g.S.Out.Sink.told) (lists_of c.take_back-told.new.groups.items)) (IsErrOf c.take_back-told.result Write) (omega arith) c.close_all.ensures.shelf.writes_grew
    (c.close_all.ensures.cause e)
    (λ did. let write = c.take_back-told.ensures.write did in inr (failed_after c.requires.fit c.requires.may.2 c.take_back-told.ensures.back write.0 write.1 write.2)) c.close_all.ensures.failed

pub returns-clause-closed : goal.returns-clause-closed
returns-clause-closed g c = λ way first opened may.
    let sinks = names_in c.args.job.now.plan.sinks in
    closed_any 1 sinks first.closed (g.S.Shelf.told c.close_all.new.shelf).closed
    (subst (λ told. HaveClosed 1 sinks told (g.S.Shelf.told c.close_all.new.shelf).closed) opened.closed_kept
    (c.close_all.ensures.closed sinks
    (subst (λ told. AreCreated (WillClose g.S.Out.Sink.told told) sinks c.deref.result.now (lists_of c.take_back-told.new.groups.items)) (sym opened.closed_kept)
    (subst (λ o. AreCreated (WillClose g.S.Out.Sink.told first.closed) sinks o (lists_of c.take_back-told.new.groups.items)) (sym c.deref.ensures.value)
    (closes_after c.requires.fit may c.take_back-told.ensures.back)))))
