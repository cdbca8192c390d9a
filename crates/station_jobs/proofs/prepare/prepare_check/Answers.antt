use Rattle.std.proofs.Common.{◌∙◌, false}
use Rattle.std.specs.Prelude.{None}
use Rattle.std.proofs.lemmas.Result.{err_from_is_err_and}
use Rattle.stations.specs.Findings.{Fits}
use Rattle.station_jobs.specs.Words.{rendering_by}
use Rattle.station_jobs.proofs.Endings.{check_ends, ends_as}
use Rattle.station_jobs.proofs.Found.{plan_outcome}
use Rattle.station_jobs.proofs.prepare.prepare_check.Goals as goal

pub returns-in_err-plan-clause-ends : goal.returns-in_err-plan-clause-ends
returns-in_err-plan-clause-ends g c =
    let p = err_from_is_err_and c.from_residual.result c.from_residual.ensures.1 in rw (p.1, p.2)
    (ends_as _ _ _ _ (c.in_err-plan.ensures.ends 0 0))

pub returns-in_err-clocks-clause-ends : goal.returns-in_err-clocks-clause-ends
returns-in_err-clocks-clause-ends g c =
    let p = err_from_is_err_and c.from_residual-in_err-clocks.result c.from_residual-in_err-clocks.ensures.1 in rw (p.1, p.2)
    (check_ends (record { plan = c.one_answer.ensures.plan; apart = c.one_answer.ensures.apart; fault = c.one_answer.ensures.fault })
    (rendering_by c.args.file.now 0 0 None false) _ _ _ _ c.in_ok-plan.ensures.plan c.in_ok-plan.ensures.apart c.read_plan.ensures.shelf _ c.in_err-clocks.ensures.fault)

pub returns-clause-found : goal.returns-clause-found
returns-clause-found g c = λ files t.
    let fits = c.in_ok-clocks.ensures.found files (c.read_plan.ensures.shelf.files ∙ t) in
    record {
      library = fits.library;
      one = plan_outcome (record { plan = c.one_answer.ensures.plan; apart = c.one_answer.ensures.apart; fault = c.one_answer.ensures.fault })
          files (rendering_by c.args.file.now 0 0 None false) _ (c.in_ok-plan.ensures.plan files t) c.in_ok-plan.ensures.apart (Fits fits.library _) fits.found;
    }
