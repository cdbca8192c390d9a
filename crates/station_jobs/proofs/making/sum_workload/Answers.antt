use Rattle.std.proofs.Common.{◌≡◌, ◌∙◌, ap, refl, subst, sym, Err, lit<}
use Rattle.std.specs.Prelude.{Some, string_bytes}
use Rattle.std.proofs.lemmas.Result.{err_from_is_err_and}
use Rattle.liq_base.specs.ShelfStates.{sure_shelf_told}
use Rattle.liq_base.proofs.Shelves.{read_none}
use Rattle.stations.specs.Findings.{IsFit}
use Rattle.stations.specs.Stations.{InWindows, Station}
use Rattle.station_render.specs.Runs.{IsRendered, station_in}
use Rattle.station_jobs.specs.Verdicts.{files_made, station_for}
use Rattle.station_jobs.specs.Prepared.{IsOneOutcome, outcome_of}
use Rattle.station_jobs.specs.Words.{Make, rendering_of}
use Rattle.station_jobs.proofs.Concluding.{job_station}
use Rattle.station_jobs.proofs.Counted.{as_many}
use Rattle.station_jobs.proofs.Leavings.{ended_starved, ended_told}
use Rattle.station_jobs.proofs.Workloads.{broke_made, one_made, stopped_made, summed}
use Rattle.station_jobs.proofs.making.sum_workload.Goals as goal

pub returns-in_err-job : goal.returns-in_err-job
returns-in_err-job g c = λ told.
    let p = err_from_is_err_and c.from_residual.result c.from_residual.ensures.1 in rw (p.1, p.2)
    (stopped_made c.args.seed c.args.size.files _ _ c.script_name.result.now told _ c.requires c.script_name.ensures c.in_err-job.ensures.ends)

pub returns-then-not-is_unbuffered : goal.returns-then-not-is_unbuffered
returns-then-not-is_unbuffered g c = λ told. ended_starved (Make c.args.seed c.args.size.files) told told (read_none told)

pub returns-in_err-rendered : goal.returns-in_err-rendered
returns-in_err-rendered g c = λ told.
    let p = err_from_is_err_and c.from_residual-in_err-rendered.result c.from_residual-in_err-rendered.ensures.1 in rw (p.1, p.2)
    (broke_made c.args.seed c.args.size.files told _ (λ at. c.in_err-rendered.ensures.cause (ap Err at)))

pub returns : goal.returns
returns g c = λ told.
    let job = c.in_ok-job.job in
    let is = c.in_ok-job.ensures.asked in
    let asked = Make c.args.seed c.args.size.files in
    let made = files_made c.args.seed c.args.size.files in
    let station : Station = station_for (rendering_of asked) job.plan job.ready.library job.ready.clocks (InWindows 16) in
    let same_station : station ≡ station_in job (InWindows 16) = job_station _ job (InWindows 16) is in
    let fit : IsFit job.plan job.ready.library job.ready.clocks 500 = subst (IsFit job.plan job.ready.library job.ready.clocks) (sym is.ticks_are) c.in_ok-job.ensures.fit in
    let one : IsOneOutcome made (rendering_of asked) (outcome_of job) =
    one_made c.args.seed c.args.size.files c.args.shelf.now c.script_name.result.now _ c.requires c.script_name.ensures c.in_ok-job.ensures.found in
    let kept : Some c.prepare.new.shelf ≡ Some c.args.shelf.now = c.prepare.ensures.shelf.files in
    let same : c.prepare.new.shelf ≡ c.args.shelf.now = cc in
    ended_told asked told told c.report_or_halt.result c.summary.result _ c.report_or_halt.ensures.told c.report_or_halt.ensures.starved c.summary.ensures
    (λ text tells. summed c.args.seed c.args.size.files job.plan job.ready.library job.ready.clocks (c.is_unbuffered.ensures c.if-not-is_unbuffered.false) one
    c.prepare.new.shelf c.render.new.shelf (string_bytes text) c.in_ok-rendered.rendered (same ∙ c.requires)
    (subst (λ s. IsRendered s (sure_shelf_told c.prepare.new.shelf) (sure_shelf_told c.render.new.shelf) c.in_ok-rendered.rendered) (sym same_station) c.in_ok-rendered.ensures.done)
    (λ run told. tells station run refl refl (c.deref.ensures.value ∙ told.gaps_are))
    (λ run. c.infallible_outputs_have_no_gaps.ensures made station run fit.plan_is one.holds.renderable (lit< tt))
    (λ run. c.sums_are_as_on_one_thread.ensures made station run fit (lit< tt)) told)
    (ended_starved asked told told (read_none told))

pub summary-requires-clause-many : goal.summary-requires-clause-many
summary-requires-clause-many g c =
    let is = c.in_ok-rendered.ensures.done in
    as_many (station_in c.in_ok-job.job (InWindows 16)) is.run _ (c.deref.ensures.value ∙ is.told.gaps_are)
