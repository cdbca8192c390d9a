use Rattle.std.proofs.Common.{◌∙◌, refl}
use Rattle.std.proofs.lemmas.Result.{err_from_is_err_and}
use Rattle.liq_base.proofs.Shelves.{read_then}
use Rattle.stations.specs.Stations.{Again}
use Rattle.station_jobs.specs.Words.{Replay}
use Rattle.station_jobs.proofs.Judging.{Tells, TraceLaws}
use Rattle.station_jobs.proofs.Leavings.{ended_early, ended_untold, told_ruled}
use Rattle.station_jobs.proofs.replaying.replay_job.Goals as goal

pub returns-in_err-job : goal.returns-in_err-job
returns-in_err-job g c =
    let p = err_from_is_err_and c.from_residual.result c.from_residual.ensures.1 in rw (p.1, p.2)
    (ended_early (Replay c.args.file.now c.args.start.second c.args.ticks.count c.args.trace.now) (λ files. refl) _ _ _ c.in_err-job.ensures.ends c.prepare.ensures.shelf)

pub returns-in_err-told : goal.returns-in_err-told
returns-in_err-told g c =
    let p = err_from_is_err_and c.from_residual-in_err-told.result c.from_residual-in_err-told.ensures.1 in rw (p.1, p.2)
    (
    let tells_one : TraceLaws = record {
      one_trace = c.texts_have_one_meaning.ensures.one_trace;
      one_stop = c.texts_have_one_meaning.ensures.one_stop;
      never_both = c.texts_have_one_meaning.ensures.never_both;
    } in
    ended_untold tells_one c.args.file.now c.args.trace.now _ _ _ c.in_ok-job.job _ _ c.in_ok-job.ensures.asked.start_is c.in_ok-job.ensures.asked.ticks_are
    c.in_ok-job.ensures.found c.prepare.ensures.shelf _ c.in_err-told.ensures.ends c.find_trace.ensures.shelf)

pub returns : goal.returns
returns g c =
    let tells_one : TraceLaws = record {
      one_trace = c.texts_have_one_meaning.ensures.one_trace;
      one_stop = c.texts_have_one_meaning.ensures.one_stop;
      never_both = c.texts_have_one_meaning.ensures.never_both;
    } in
    c.conclude.ensures (Replay c.args.file.now c.args.start.second c.args.ticks.count c.args.trace.now) (Again c.in_ok-told.told.trace) _ _ _
    (λ station. refl) c.in_ok-job.ensures.asked
    (λ files t. told_ruled tells_one c.args.file.now c.args.trace.now c.in_ok-job.job _ _ c.in_ok-job.ensures.asked.start_is c.in_ok-job.ensures.asked.ticks_are files (c.in_ok-job.ensures.found files t)
    (Tells c.in_ok-told.told.trace) (record { has = c.in_ok-told.ensures.found files (c.prepare.ensures.shelf.files ∙ t); fits = c.in_ok-told.ensures.fits }))
    (read_then _ _ _ c.prepare.ensures.shelf c.find_trace.ensures.shelf) c.render_again-ended.ensures
