use Rattle.std.proofs.Common.{refl}
use Rattle.std.proofs.lemmas.Result.{err_from_is_err_and}
use Rattle.builtin_calls.specs.Parts.{plain_sources}
use Rattle.builtin_calls.proofs.Chained.{ends_with}
use Rattle.builtin_calls.proofs.sources.plain_sources.Goals as goal

pub returns-in_err-value-clause-given : goal.returns-in_err-value-clause-given
unfolding plain_sources
returns-in_err-value-clause-given c =
    let p = err_from_is_err_and c.from_residual.result c.from_residual.ensures.1 in
    rw (p.1, p.2) (ends_with c.in_err-value.field-0.0 _ _ c.in_err-value.ensures (λ q. rw (q) refl))

pub returns-in_err-sources-clause-given : goal.returns-in_err-sources-clause-given
unfolding plain_sources
returns-in_err-sources-clause-given c =
    let p = err_from_is_err_and c.from_residual-in_err-sources.result c.from_residual-in_err-sources.ensures.1 in
    rw (p.1, p.2) (ends_with c.in_err-sources.field-0.0 _ _ c.in_err-sources.ensures.given (λ q. rw (c.in_ok-value.ensures, q) refl))

pub returns-clause-given : goal.returns-clause-given
unfolding plain_sources
returns-clause-given c = rw (c.in_ok-value.ensures, c.in_ok-sources.ensures.given) refl
