use Rattle.std.proofs.Common.{refl}
use Rattle.std.proofs.lemmas.Result.{err_from_is_err_and}
use Rattle.builtin_calls.specs.Builtins.{over_sources}
use Rattle.builtin_calls.proofs.Chained.{ends_with}
use Rattle.builtin_calls.proofs.children.over_sources.Goals as goal

pub returns-in_err-kind : goal.returns-in_err-kind
unfolding over_sources
returns-in_err-kind c =
    let p = err_from_is_err_and c.from_residual.result c.from_residual.ensures.1 in
    rw (p.1, p.2) (ends_with c.in_err-kind.field-0.0 _ _ c.in_err-kind.ensures (λ q. rw (q) refl))

pub returns-in_err-children : goal.returns-in_err-children
unfolding over_sources
returns-in_err-children c =
    let p = err_from_is_err_and c.from_residual-in_err-children.result c.from_residual-in_err-children.ensures.1 in
    rw (p.1, p.2) (ends_with c.in_err-children.field-0.0 _ _ c.in_err-children.ensures.given (λ q. rw (c.in_ok-kind.ensures, q) refl))

pub returns : goal.returns
unfolding over_sources
returns c = rw (c.in_ok-kind.ensures, c.in_ok-children.ensures.given) (rw c.from_vec.ensures at c.add.ensures)
