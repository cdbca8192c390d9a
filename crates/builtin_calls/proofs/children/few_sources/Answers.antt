use Rattle.std.proofs.Common.{refl}
use Rattle.std.proofs.lemmas.Result.{err_from_is_err_and}
use Rattle.builtin_calls.specs.Builtins.{few_sources}
use Rattle.builtin_calls.proofs.Chained.{ends_with}
use Rattle.builtin_calls.proofs.children.few_sources.Goals as goal

pub returns-in_err-sources-clause-given : goal.returns-in_err-sources-clause-given
unfolding few_sources
returns-in_err-sources-clause-given c =
    let p = err_from_is_err_and c.from_residual.result c.from_residual.ensures.1 in
    rw (p.1, p.2) (ends_with c.in_err-sources.field-0.0 _ _ c.in_err-sources.ensures.given (λ q. rw (q) refl))

pub returns-in_err-few-clause-given : goal.returns-in_err-few-clause-given
unfolding few_sources
returns-in_err-few-clause-given c =
    let p = err_from_is_err_and c.from_residual-in_err-few.result c.from_residual-in_err-few.ensures.1 in
    rw (p.1, p.2) (ends_with c.in_err-few.field-0.0 _ _ (rw c.deref.ensures.value at c.in_err-few.ensures.given) (λ q. rw (c.in_ok-sources.ensures.given, q) refl))

pub returns-clause-given : goal.returns-clause-given
unfolding few_sources
returns-clause-given c = rw (c.in_ok-sources.ensures.given) (rw c.deref.ensures.value at c.in_ok-few.ensures.given)
