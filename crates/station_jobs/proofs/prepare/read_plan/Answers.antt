use Rattle.std.proofs.lemmas.Result.{err_from_is_err_and}
use Rattle.station_jobs.specs.Read.{named}
use Rattle.station_jobs.specs.Words.{rendering_by}
use Rattle.station_jobs.proofs.Endings.{clash_ends, ends_as, script_ends}
use Rattle.station_jobs.proofs.prepare.read_plan.Goals as goal

pub returns-in_err-script-clause-ends : goal.returns-in_err-script-clause-ends
returns-in_err-script-clause-ends g c = λ start ticks.
    let p = err_from_is_err_and c.from_residual.result c.from_residual.ensures.1 in rw (p.1, p.2)
    (ends_as _ _ _ _ (c.in_err-script.ensures.ends start ticks (named c.args.trace) c.args.cues))

pub returns-in_err-plan-clause-ends : goal.returns-in_err-plan-clause-ends
returns-in_err-plan-clause-ends g c = λ start ticks.
    let p = err_from_is_err_and c.from_residual-in_err-plan.result c.from_residual-in_err-plan.ensures.1 in rw (p.1, p.2)
    (script_ends (record { plan = c.one_answer.ensures.plan; apart = c.one_answer.ensures.apart; fault = c.one_answer.ensures.fault })
    (rendering_by c.args.file.now start ticks (named c.args.trace) c.args.cues) _ _ _ c.in_ok-script.ensures.script _ (rw c.deref.ensures.value at c.in_err-plan.ensures.fault))

pub returns-in_err-keep_apart-clause-ends : goal.returns-in_err-keep_apart-clause-ends
returns-in_err-keep_apart-clause-ends g c = λ start ticks.
    let p = err_from_is_err_and c.from_residual-in_err-keep_apart.result c.from_residual-in_err-keep_apart.ensures.1 in rw (p.1, p.2)
    (clash_ends (record { plan = c.one_answer.ensures.plan; apart = c.one_answer.ensures.apart; fault = c.one_answer.ensures.fault })
    (rendering_by c.args.file.now start ticks (named c.args.trace) c.args.cues) _ _ _ c.in_ok-script.ensures.script _ (rw c.deref.ensures.value at c.in_ok-plan.ensures.plan) _ c.in_err-keep_apart.ensures.ends)

pub returns-clause-plan : goal.returns-clause-plan
returns-clause-plan g c = λ files t. record {
  script = _;
  there = c.in_ok-script.ensures.script files t;
  is_plan = rw c.deref.ensures.value at c.in_ok-plan.ensures.plan;
}
