use Rattle.std.proofs.Common.{refl}
use Rattle.std.proofs.lemmas.Result.{err_from_is_err_and}
use Rattle.builtin_calls.specs.Builtins.{mksafe}
use Rattle.builtin_calls.proofs.Chained.{ends_with}
use Rattle.builtin_calls.proofs.single_source.mksafe.Goals as goal

pub returns-in_err-kind : goal.returns-in_err-kind
unfolding mksafe
returns-in_err-kind c =
    let p = err_from_is_err_and c.from_residual.result c.from_residual.ensures.1 in
    rw (p.1, p.2) (ends_with c.in_err-kind.field-0.0 _ _ c.in_err-kind.ensures (λ q. rw (q) refl))

pub returns-in_err-source : goal.returns-in_err-source
unfolding mksafe
returns-in_err-source c =
    let p = err_from_is_err_and c.from_residual-in_err-source.result c.from_residual-in_err-source.ensures.1 in
    rw (p.1, p.2) (ends_with c.in_err-source.field-0.0 _ _ c.in_err-source.ensures.given (λ q. rw (c.in_ok-kind.ensures, q) refl))

pub returns : goal.returns
unfolding mksafe
returns c = rw (c.in_ok-kind.ensures, c.in_ok-source.ensures.given) c.safe.ensures
