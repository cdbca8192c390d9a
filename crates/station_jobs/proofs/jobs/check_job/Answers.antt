use Rattle.std.proofs.Common.{refl}
use Rattle.std.proofs.lemmas.Result.{err_from_is_err_and}
use Rattle.station_jobs.specs.Words.{Check}
use Rattle.station_jobs.proofs.Leavings.{checked, ended_early, ended_starved, ended_told}
use Rattle.station_jobs.proofs.jobs.check_job.Goals as goal

pub returns-in_err-work : goal.returns-in_err-work
returns-in_err-work g c =
    let p = err_from_is_err_and c.from_residual.result c.from_residual.ensures.1 in rw (p.1, p.2)
    (ended_early (Check c.args.file.now) (λ files. refl) _ _ _ c.in_err-work.ensures.ends c.prepare_check.ensures.shelf)

pub returns : goal.returns
returns g c =
    ended_told (Check c.args.file.now) _ _ c.report_or_halt.result c.check_report.result _ c.report_or_halt.ensures.told c.report_or_halt.ensures.starved c.check_report.ensures
    (λ text tells. checked c.args.file.now _ _ _ _ _ c.in_ok-work.ensures.found c.prepare_check.ensures.shelf tells)
    (ended_starved (Check c.args.file.now) _ _ c.prepare_check.ensures.shelf)
