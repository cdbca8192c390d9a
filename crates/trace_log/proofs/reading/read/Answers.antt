use Rattle.std.proofs.Common.{rules, ◌≡◌, Err, Ok, refl, ap, ◌∙◌}
use Rattle.std.proofs.lemmas.Result.{err_from_is_err_and}
use Rattle.trace_log.specs.Stops.{IsText}
use Rattle.trace_log.specs.declared.fault.TraceFault.TheVariants as faults
use Rattle.trace_log.proofs.Answering.{told_there, told_never, no_trace, that_trace}
use Rattle.trace_log.proofs.reading.read.Goals as goal

pub returns-in-Some-clause-fault : goal.returns-in-Some-clause-fault
returns-in-Some-clause-fault c = told_there c.args.text.now c.in-Some.line (Err (faults.NotTrace c.in-Some.line)) refl c.in-Some.ensures.stops

pub returns-in-Some-clause-only : goal.returns-in-Some-clause-only
returns-in-Some-clause-only c = λ t is e free. absurd (no_trace c.args.text.now c.in-Some.line c.in-Some.ensures.stops t is e)

pub returns-in_err-trace-clause-fault : goal.returns-in_err-trace-clause-fault
returns-in_err-trace-clause-fault c =
    let p = err_from_is_err_and c.from_residual.result c.from_residual.ensures.1 in
    let refused : c.from_residual.result ≡ Err faults.Memory = p.1 ∙ ap Err p.2 in
    let whole : IsText c.args.text.now = search rules in
    told_never c.args.text.now c.from_residual.result (λ j e. cc) whole

pub returns-in_err-trace-clause-only : goal.returns-in_err-trace-clause-only
returns-in_err-trace-clause-only c = λ t is e free.
    let p = err_from_is_err_and c.from_residual.result c.from_residual.ensures.1 in
    absurd (free (p.1 ∙ ap Err p.2))

pub returns-clause-fault : goal.returns-clause-fault
returns-clause-fault c =
    let whole : IsText c.args.text.now = search rules in
    told_never c.args.text.now (Ok c.in_ok-trace.trace) (λ j e. cc) whole

pub returns-clause-only : goal.returns-clause-only
returns-clause-only c = λ t is e free. ap Ok (that_trace c.args.text.now c.in_ok-trace.trace t c.in_ok-trace.ensures.0 c.in_ok-trace.ensures.1 is e)
