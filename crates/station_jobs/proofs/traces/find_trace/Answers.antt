use Rattle.std.proofs.Common.{◌≡◌, None, rules}
use Rattle.std.proofs.lemmas.Result.{err_from_is_err_and}
use Rattle.refusal_lines.specs.declared.replay_lines.ReplayFault.TheVariants.{DoesNotFit}
use Rattle.station_render.specs.Runs.{setting_by}
use Rattle.station_jobs.proofs.Untold.{ends_told, trace_ends_as}
use Rattle.station_jobs.proofs.traces.find_trace.Goals as goal

pub returns-in_err-trace-clause-ends : goal.returns-in_err-trace-clause-ends
returns-in_err-trace-clause-ends g c =
    let base = setting_by c.args.job.now in
    let p = err_from_is_err_and c.from_residual.result c.from_residual.ensures.1 in rw (p.1, p.2)
    (trace_ends_as _ base c.args.job.now.ready.clocks.running c.args.job.now.ticks _ _ _ (c.in_err-trace.ensures.ends base c.args.job.now.ready.clocks.running c.args.job.now.ticks))

pub returns-in_default-clause-ends : goal.returns-in_default-clause-ends
returns-in_default-clause-ends g c =
    let none : c.in_ok-found.found ≡ None = search rules in
    ends_told _ _ _ _ _ _ DoesNotFit (λ files t. record { trace = c.in_ok-trace.trace; has = c.in_ok-trace.ensures.found files t; unfit = c.in_ok-found.ensures.no none })
