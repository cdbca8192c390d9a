use Rattle.std.proofs.Common.{refl}
use Rattle.std.proofs.lemmas.Result.{err_from_is_err_and}
use Rattle.stations.specs.Stations.{InWindows}
use Rattle.station_render.proofs.Leaving.{not_opened}
use Rattle.station_render.proofs.Staging.{may_close}
use Rattle.station_render.proofs.rendering.render.Goals as goal

pub returns-in_err-places : goal.returns-in_err-places
returns-in_err-places g c =
    let p = err_from_is_err_and c.from_residual.result c.from_residual.ensures.1 in rw (p.1, p.2)
    (not_opened c.args.job.now (InWindows c.args.window) _ _ _ _ refl (c.in_err-places.ensures.part (InWindows c.args.window) tt) (λ e. c.in_err-places.ensures.cause (cc)) c.in_err-places.ensures.front c.open_outputs.ensures.reads c.open_outputs.ensures.writes)

pub tick_by_threads-engines-requires-clause-ready : goal.tick_by_threads-engines-requires-clause-ready
tick_by_threads-engines-requires-clause-ready g c κs lives = c.in_ok-places.ensures.opened.ready

pub finish-requires-clause-may : goal.finish-requires-clause-may
finish-requires-clause-may g c κs lives =
    (InWindows c.args.window, refl, _, c.in_ok-places.ensures.shelf, may_close g.S.Out.Sink.told c.in_ok-places.ensures.opened c.tick_by_threads-engines.ensures.ticked)

pub returns : goal.returns
returns g c =
    c.finish.ensures (InWindows c.args.window) _ refl c.in_ok-places.ensures.shelf (may_close g.S.Out.Sink.told c.in_ok-places.ensures.opened c.tick_by_threads-engines.ensures.ticked)
