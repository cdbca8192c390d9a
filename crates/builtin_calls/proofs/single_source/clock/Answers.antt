use Rattle.std.proofs.Common.{refl}
use Rattle.std.proofs.lemmas.Result.{err_from_is_err_and}
use Rattle.builtin_calls.specs.Builtins.{clock}
use Rattle.builtin_calls.proofs.Chained.{ends_with}
use Rattle.builtin_calls.proofs.single_source.clock.Goals as goal

pub returns-in_err-unnamed : goal.returns-in_err-unnamed
returns-in_err-unnamed c =
    let p = err_from_is_err_and c.from_residual.result c.from_residual.ensures.1 in
    rw (p.1, p.2) tt

pub returns-in_err-id : goal.returns-in_err-id
unfolding clock
returns-in_err-id c =
    let p = err_from_is_err_and c.from_residual-in_err-id.result c.from_residual-in_err-id.ensures.1 in
    rw (p.1, p.2) (ends_with c.in_err-id.field-0.0 _ _ (rw c.in_ok-unnamed.ensures.copied at c.in_err-id.ensures) (λ q. rw (q) refl))

pub returns-in_err-kind : goal.returns-in_err-kind
unfolding clock
returns-in_err-kind c =
    let p = err_from_is_err_and c.from_residual-in_err-kind.result c.from_residual-in_err-kind.ensures.1 in
    rw (p.1, p.2) (ends_with c.in_err-kind.field-0.0 _ _ c.in_err-kind.ensures (λ q. rw ((rw c.in_ok-unnamed.ensures.copied at c.in_ok-id.ensures), q) refl))

pub returns-in_err-source : goal.returns-in_err-source
unfolding clock
returns-in_err-source c =
    let p = err_from_is_err_and c.from_residual-in_err-source.result c.from_residual-in_err-source.ensures.1 in
    rw (p.1, p.2) (ends_with c.in_err-source.field-0.0 _ _ c.in_err-source.ensures.given (λ q. rw ((rw c.in_ok-unnamed.ensures.copied at c.in_ok-id.ensures), c.in_ok-kind.ensures, q) refl))

pub returns-in_err-children : goal.returns-in_err-children
returns-in_err-children c =
    let p = err_from_is_err_and c.from_residual-in_err-children.result c.from_residual-in_err-children.ensures.1 in
    rw (p.1, p.2) tt

pub returns : goal.returns
unfolding clock
returns c = rw ((rw c.in_ok-unnamed.ensures.copied at c.in_ok-id.ensures), c.in_ok-kind.ensures, c.in_ok-source.ensures.given) (rw c.in_ok-children.ensures at c.add.ensures)
