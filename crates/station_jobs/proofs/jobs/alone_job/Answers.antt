use Rattle.std.proofs.Common.{refl}
use Rattle.std.proofs.lemmas.Result.{err_from_is_err_and}
use Rattle.std.specs.Prelude.{None}
use Rattle.stations.specs.Stations.{InRounds}
use Rattle.station_jobs.specs.Read.{rendering_read}
use Rattle.station_jobs.specs.Words.{Render}
use Rattle.station_jobs.proofs.Leavings.{ended_early}
use Rattle.station_jobs.proofs.Outcomes.{plain_ruled, render_plain}
use Rattle.station_jobs.proofs.jobs.alone_job.Goals as goal

pub returns-in_err-job : goal.returns-in_err-job
returns-in_err-job g c =
    let p = err_from_is_err_and c.from_residual.result c.from_residual.ensures.1 in rw (p.1, p.2)
    (ended_early (Render (rendering_read c.args.asked.now) None) (λ files. refl) _ _ _ c.in_err-job.ensures.ends c.prepare.ensures.shelf)

pub returns : goal.returns
returns g c =
    let asked = Render (rendering_read c.args.asked.now) None in
    c.conclude.ensures asked (InRounds) _ _ _ (λ station. refl) c.in_ok-job.ensures.asked
    (λ files t. plain_ruled asked (InRounds) (render_plain (rendering_read c.args.asked.now) None) files _ _ _ (c.in_ok-job.ensures.found files t))
    c.prepare.ensures.shelf c.render_alone-ended.ensures
