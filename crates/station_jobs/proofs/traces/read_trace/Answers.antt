use Rattle.std.proofs.Common.{◌∙◌, ap, sym, subst, Err}
use Rattle.std.proofs.lemmas.Result.{err_from_is_err_and}
use Rattle.refusal_lines.specs.declared.replay_lines.ReplayFault.TheVariants.{NotATrace}
use Rattle.trace_log.specs.Stops.{StopsAt}
use Rattle.station_jobs.proofs.Untold.{ends_told, trace_ends_as}
use Rattle.station_jobs.proofs.traces.read_trace.Goals as goal

pub returns-in_err-text-clause-ends : goal.returns-in_err-text-clause-ends
returns-in_err-text-clause-ends g c = λ base clocks ticks.
    let p = err_from_is_err_and c.from_residual.result c.from_residual.ensures.1 in rw (p.1, p.2)
    (trace_ends_as _ base clocks ticks _ _ _ (c.in_err-text.ensures.ends base clocks ticks))

pub returns-in-Ok-clause-found : goal.returns-in-Ok-clause-found
returns-in-Ok-clause-found g c = λ files t.
    record { text = c.in_ok-text.text.items; has = c.in_ok-text.ensures.found files t; is_trace = c.in-Ok.ensures.ok.0; text_is = sym c.deref.ensures.value ∙ c.in-Ok.ensures.ok.1 }

pub returns-in-Err-NotTrace-clause-ends : goal.returns-in-Err-NotTrace-clause-ends
returns-in-Err-NotTrace-clause-ends g c = λ base clocks ticks.
    let line = c.in-Err-NotTrace.line in
    ends_told _ base clocks ticks _ _ (NotATrace line) (λ files t. record {
      text = c.in_ok-text.text.items;
      has = c.in_ok-text.ensures.found files t;
      stops = subst (λ x. StopsAt x line) c.deref.ensures.value ((c.read.ensures.fault line).0 (c.in-Err-NotTrace.is ∙ ap Err c.in-Err-NotTrace.field-0-is));
    })
