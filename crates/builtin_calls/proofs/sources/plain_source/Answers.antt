use Rattle.std.proofs.Common.{refl}
use Rattle.std.proofs.lemmas.Result.{err_from_is_err_and}
use Rattle.builtin_calls.specs.Parts.{plain_source}
use Rattle.builtin_calls.proofs.Chained.{ends_with}
use Rattle.builtin_calls.proofs.sources.plain_source.Goals as goal

pub returns-in_err-value-clause-given : goal.returns-in_err-value-clause-given
unfolding plain_source
returns-in_err-value-clause-given c =
    let p = err_from_is_err_and c.from_residual.result c.from_residual.ensures.1 in
    rw (p.1, p.2) (ends_with c.in_err-value.field-0.0 _ _ c.in_err-value.ensures (λ q. rw (q) refl))

pub returns-in_err-source-clause-given : goal.returns-in_err-source-clause-given
unfolding plain_source
returns-in_err-source-clause-given c =
    let p = err_from_is_err_and c.from_residual-in_err-source.result c.from_residual-in_err-source.ensures.1 in
    rw (p.1, p.2) (ends_with c.in_err-source.field-0.0 _ _ c.in_err-source.ensures.given (λ q. rw (c.in_ok-value.ensures, q) refl))

pub returns-clause-given : goal.returns-clause-given
unfolding plain_source
returns-clause-given c = rw (c.in_ok-value.ensures, c.in_ok-source.ensures.given) refl
