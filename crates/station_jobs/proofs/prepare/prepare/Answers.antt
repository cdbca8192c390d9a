use Rattle.std.proofs.Common.{◌∙◌, refl}
use Rattle.std.proofs.lemmas.Result.{err_from_is_err_and}
use Rattle.stations.specs.Findings.{Fits}
use Rattle.station_jobs.proofs.Endings.{check_ends, ends_as}
use Rattle.station_jobs.proofs.Found.{plan_outcome}
use Rattle.station_jobs.proofs.prepare.prepare.Goals as goal

pub returns-in_err-plan-clause-ends : goal.returns-in_err-plan-clause-ends
returns-in_err-plan-clause-ends g c =
    let p = err_from_is_err_and c.from_residual.result c.from_residual.ensures.1 in rw (p.1, p.2)
    (ends_as _ _ _ _ (c.in_err-plan.ensures.ends c.args.asked.now.start.second c.args.asked.now.ticks.count))

pub returns-in_err-ready-clause-ends : goal.returns-in_err-ready-clause-ends
returns-in_err-ready-clause-ends g c =
    let p = err_from_is_err_and c.from_residual-in_err-ready.result c.from_residual-in_err-ready.ensures.1 in rw (p.1, p.2)
    (check_ends (record { plan = c.one_answer.ensures.plan; apart = c.one_answer.ensures.apart; fault = c.one_answer.ensures.fault })
    _ _ _ _ _ c.in_ok-plan.ensures.plan c.in_ok-plan.ensures.apart c.read_plan.ensures.shelf _ c.in_err-ready.ensures.fault)

pub returns-clause-found : goal.returns-clause-found
returns-clause-found g c = λ files t.
    plan_outcome (record { plan = c.one_answer.ensures.plan; apart = c.one_answer.ensures.apart; fault = c.one_answer.ensures.fault })
    files _ _ (c.in_ok-plan.ensures.plan files t) c.in_ok-plan.ensures.apart (Fits _ _)
    (c.in_ok-ready.ensures.found files (c.read_plan.ensures.shelf.files ∙ t))

pub returns-clause-asked : goal.returns-clause-asked
returns-clause-asked g c = record { start_is = refl; ticks_are = refl; trace_is = refl; cues_are = refl }
