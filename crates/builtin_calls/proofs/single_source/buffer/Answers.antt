use Rattle.std.proofs.Common.{refl}
use Rattle.std.proofs.lemmas.Result.{err_from_is_err_and}
use Rattle.builtin_calls.specs.Builtins.{buffer}
use Rattle.builtin_calls.proofs.Chained.{ends_with}
use Rattle.builtin_calls.proofs.single_source.buffer.Goals as goal

pub returns-in_err-held : goal.returns-in_err-held
unfolding buffer
returns-in_err-held c =
    let p = err_from_is_err_and c.from_residual.result c.from_residual.ensures.1 in
    rw (p.1, p.2) (ends_with c.in_err-held.field-0.0 _ _ (rw c.one_second.ensures at c.in_err-held.ensures) (λ q. rw (q) refl))

pub returns-in_err-most : goal.returns-in_err-most
unfolding buffer
returns-in_err-most c =
    let p = err_from_is_err_and c.from_residual-in_err-most.result c.from_residual-in_err-most.ensures.1 in
    rw (p.1, p.2) (ends_with c.in_err-most.field-0.0 _ _ (rw c.ten_seconds.ensures at c.in_err-most.ensures) (λ q. rw ((rw c.one_second.ensures at c.in_ok-held.ensures), q) refl))

pub returns-in_err-kind : goal.returns-in_err-kind
unfolding buffer
returns-in_err-kind c =
    let p = err_from_is_err_and c.from_residual-in_err-kind.result c.from_residual-in_err-kind.ensures.1 in
    rw (p.1, p.2) (ends_with c.in_err-kind.field-0.0 _ _ c.in_err-kind.ensures (λ q. rw ((rw c.one_second.ensures at c.in_ok-held.ensures), (rw c.ten_seconds.ensures at c.in_ok-most.ensures), q) refl))

pub returns-in_err-source : goal.returns-in_err-source
unfolding buffer
returns-in_err-source c =
    let p = err_from_is_err_and c.from_residual-in_err-source.result c.from_residual-in_err-source.ensures.1 in
    rw (p.1, p.2) (ends_with c.in_err-source.field-0.0 _ _ c.in_err-source.ensures.given (λ q. rw ((rw c.one_second.ensures at c.in_ok-held.ensures), (rw c.ten_seconds.ensures at c.in_ok-most.ensures), c.in_ok-kind.ensures, q) refl))

pub returns-in_err-plan : goal.returns-in_err-plan
unfolding buffer
returns-in_err-plan c =
    let p = err_from_is_err_and c.from_residual-in_err-plan.result c.from_residual-in_err-plan.ensures.1 in
    rw (p.1, p.2) (ends_with c.in_err-plan.field-0.0 _ _ c.in_err-plan.ensures (λ q. rw ((rw c.one_second.ensures at c.in_ok-held.ensures), (rw c.ten_seconds.ensures at c.in_ok-most.ensures), c.in_ok-kind.ensures, c.in_ok-source.ensures.given, q) refl))

pub returns : goal.returns
unfolding buffer
returns c = rw ((rw c.one_second.ensures at c.in_ok-held.ensures), (rw c.ten_seconds.ensures at c.in_ok-most.ensures), c.in_ok-kind.ensures, c.in_ok-source.ensures.given, c.in_ok-plan.ensures) c.add_buffer.ensures
