use Rattle.std.proofs.Common.{refl}
use Rattle.std.proofs.lemmas.Result.{err_from_is_err_and}
use Rattle.builtin_calls.specs.Builtins.{add_sources}
use Rattle.builtin_calls.proofs.Chained.{ends_with}
use Rattle.builtin_calls.proofs.children.sum.Goals as goal

pub returns-in_err-normalize : goal.returns-in_err-normalize
unfolding add_sources
returns-in_err-normalize c =
    let p = err_from_is_err_and c.from_residual.result c.from_residual.ensures.1 in
    rw (p.1, p.2) (ends_with c.in_err-normalize.field-0.0 _ _ c.in_err-normalize.ensures (λ q. rw (q) refl))

pub returns : goal.returns
unfolding add_sources
returns c = rw (c.in_ok-normalize.ensures) c.over_sources.ensures
