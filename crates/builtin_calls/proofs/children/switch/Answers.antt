use Rattle.std.proofs.Common.{refl}
use Rattle.std.proofs.lemmas.Result.{err_from_is_err_and}
use Rattle.builtin_calls.specs.Builtins.{switch}
use Rattle.builtin_calls.proofs.Chained.{ends_with}
use Rattle.builtin_calls.proofs.children.switch.Goals as goal

pub returns-in_err-sensitive : goal.returns-in_err-sensitive
unfolding switch
returns-in_err-sensitive c =
    let p = err_from_is_err_and c.from_residual.result c.from_residual.ensures.1 in
    rw (p.1, p.2) (ends_with c.in_err-sensitive.field-0.0 _ _ c.in_err-sensitive.ensures (λ q. rw (q) refl))

pub returns-in_err-kind : goal.returns-in_err-kind
unfolding switch
returns-in_err-kind c =
    let p = err_from_is_err_and c.from_residual-in_err-kind.result c.from_residual-in_err-kind.ensures.1 in
    rw (p.1, p.2) (ends_with c.in_err-kind.field-0.0 _ _ c.in_err-kind.ensures (λ q. rw (c.in_ok-sensitive.ensures, q) refl))

pub returns-in_err-pairs : goal.returns-in_err-pairs
unfolding switch
returns-in_err-pairs c =
    let p = err_from_is_err_and c.from_residual-in_err-pairs.result c.from_residual-in_err-pairs.ensures.1 in
    rw (p.1, p.2) (ends_with c.in_err-pairs.field-0.0 _ _ c.in_err-pairs.ensures.given (λ q. rw (c.in_ok-sensitive.ensures, c.in_ok-kind.ensures, q) refl))

pub returns : goal.returns
unfolding switch
returns c = rw (c.in_ok-sensitive.ensures, c.in_ok-kind.ensures, c.in_ok-pairs.ensures.given) (rw (c.from_vec.ensures, c.from_vec-preds.ensures) at c.add.ensures)
