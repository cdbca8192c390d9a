use Rattle.std.proofs.Common.{refl}
use Rattle.std.proofs.lemmas.Result.{err_from_is_err_and}
use Rattle.builtin_calls.specs.Builtins.{amplify}
use Rattle.builtin_calls.proofs.Chained.{ends_with}
use Rattle.builtin_calls.proofs.single_source.amplify.Goals as goal

pub returns-in_err-factor : goal.returns-in_err-factor
unfolding amplify
returns-in_err-factor c =
    let p = err_from_is_err_and c.from_residual.result c.from_residual.ensures.1 in
    rw (p.1, p.2) (ends_with c.in_err-factor.field-0.0 _ _ c.in_err-factor.ensures (λ q. rw (q) refl))

pub returns-in_err-kind : goal.returns-in_err-kind
unfolding amplify
returns-in_err-kind c =
    let p = err_from_is_err_and c.from_residual-in_err-kind.result c.from_residual-in_err-kind.ensures.1 in
    rw (p.1, p.2) (ends_with c.in_err-kind.field-0.0 _ _ c.in_err-kind.ensures (λ q. rw (c.in_ok-factor.ensures, q) refl))

pub returns-in_err-source : goal.returns-in_err-source
unfolding amplify
returns-in_err-source c =
    let p = err_from_is_err_and c.from_residual-in_err-source.result c.from_residual-in_err-source.ensures.1 in
    rw (p.1, p.2) (ends_with c.in_err-source.field-0.0 _ _ c.in_err-source.ensures.given (λ q. rw (c.in_ok-factor.ensures, c.in_ok-kind.ensures, q) refl))

pub returns-in_err-children : goal.returns-in_err-children
returns-in_err-children c =
    let p = err_from_is_err_and c.from_residual-in_err-children.result c.from_residual-in_err-children.ensures.1 in
    rw (p.1, p.2) tt

pub returns : goal.returns
unfolding amplify
returns c = rw (c.in_ok-factor.ensures, c.in_ok-kind.ensures, c.in_ok-source.ensures.given) (rw c.in_ok-children.ensures at c.add.ensures)
