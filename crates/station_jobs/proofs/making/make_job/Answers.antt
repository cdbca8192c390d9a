use Rattle.std.proofs.lemmas.Result.{err_from_is_err_and}
use Rattle.liq_base.proofs.Shelves.{read_none}
use Rattle.station_jobs.specs.Words.{Make}
use Rattle.station_jobs.proofs.Leavings.{ended_starved}
use Rattle.station_jobs.proofs.making.make_job.Goals as goal

pub returns-in_err-shelf : goal.returns-in_err-shelf
returns-in_err-shelf g c = λ told.
    let p = err_from_is_err_and c.from_residual.result c.from_residual.ensures.1 in rw (p.1, p.2)
    (ended_starved (Make c.args.seed c.args.size.files) told told (read_none told))
