use Rattle.std.proofs.Common.{refl}
use Rattle.std.proofs.lemmas.Result.{err_from_is_err_and}
use Rattle.builtin_calls.specs.Builtins.{crossfade}
use Rattle.builtin_calls.proofs.Chained.{ends_with}
use Rattle.builtin_calls.proofs.single_source.crossfade.Goals as goal

pub returns-in_err-duration : goal.returns-in_err-duration
unfolding crossfade
returns-in_err-duration c =
    let p = err_from_is_err_and c.from_residual.result c.from_residual.ensures.1 in
    rw (p.1, p.2) (ends_with c.in_err-duration.field-0.0 _ _ (rw c.five_seconds.ensures at c.in_err-duration.ensures) (λ q. rw (q) refl))

pub returns-in_err-kind : goal.returns-in_err-kind
unfolding crossfade
returns-in_err-kind c =
    let p = err_from_is_err_and c.from_residual-in_err-kind.result c.from_residual-in_err-kind.ensures.1 in
    rw (p.1, p.2) (ends_with c.in_err-kind.field-0.0 _ _ c.in_err-kind.ensures (λ q. rw ((rw c.five_seconds.ensures at c.in_ok-duration.ensures), q) refl))

pub returns-in_err-source : goal.returns-in_err-source
unfolding crossfade
returns-in_err-source c =
    let p = err_from_is_err_and c.from_residual-in_err-source.result c.from_residual-in_err-source.ensures.1 in
    rw (p.1, p.2) (ends_with c.in_err-source.field-0.0 _ _ c.in_err-source.ensures.given (λ q. rw ((rw c.five_seconds.ensures at c.in_ok-duration.ensures), c.in_ok-kind.ensures, q) refl))

pub returns-in_err-overlap : goal.returns-in_err-overlap
unfolding crossfade
returns-in_err-overlap c =
    let p = err_from_is_err_and c.from_residual-in_err-overlap.result c.from_residual-in_err-overlap.ensures.1 in
    rw (p.1, p.2) (ends_with c.in_err-overlap.field-0.0 _ _ c.in_err-overlap.ensures (λ q. rw ((rw c.five_seconds.ensures at c.in_ok-duration.ensures), c.in_ok-kind.ensures, c.in_ok-source.ensures.given, q) refl))

pub returns-in_err-children : goal.returns-in_err-children
returns-in_err-children c =
    let p = err_from_is_err_and c.from_residual-in_err-children.result c.from_residual-in_err-children.ensures.1 in
    rw (p.1, p.2) tt

pub returns : goal.returns
unfolding crossfade
returns c = rw ((rw c.five_seconds.ensures at c.in_ok-duration.ensures), c.in_ok-kind.ensures, c.in_ok-source.ensures.given, c.in_ok-overlap.ensures) (rw c.in_ok-children.ensures at c.add.ensures)
