use Rattle.std.proofs.Common.{refl}
use Rattle.std.proofs.lemmas.Result.{err_from_is_err_and}
use Rattle.builtin_calls.specs.Builtins.{blank}
use Rattle.builtin_calls.proofs.Chained.{ends_with}
use Rattle.builtin_calls.proofs.leaves.blank.Goals as goal

pub returns-in_err-duration : goal.returns-in_err-duration
unfolding blank
returns-in_err-duration c =
    let p = err_from_is_err_and c.from_residual.result c.from_residual.ensures.1 in
    rw (p.1, p.2) (ends_with c.in_err-duration.field-0.0 _ _ (rw c.no_time.ensures at c.in_err-duration.ensures) (λ q. rw (q) refl))

pub returns-in_err-kind : goal.returns-in_err-kind
unfolding blank
returns-in_err-kind c =
    let p = err_from_is_err_and c.from_residual-in_err-kind.result c.from_residual-in_err-kind.ensures.1 in
    rw (p.1, p.2) (ends_with c.in_err-kind.field-0.0 _ _ c.in_err-kind.ensures (λ q. rw ((rw c.no_time.ensures at c.in_ok-duration.ensures), q) refl))

pub returns-in_err-track : goal.returns-in_err-track
unfolding blank
returns-in_err-track c =
    let p = err_from_is_err_and c.from_residual-in_err-track.result c.from_residual-in_err-track.ensures.1 in
    rw (p.1, p.2) (ends_with c.in_err-track.field-0.0 _ _ (rw c.plan.ensures.same at c.in_err-track.ensures) (λ q. rw ((rw c.no_time.ensures at c.in_ok-duration.ensures), c.in_ok-kind.ensures, q) refl))

pub returns : goal.returns
unfolding blank
returns c = rw ((rw c.no_time.ensures at c.in_ok-duration.ensures), c.in_ok-kind.ensures, (rw c.plan.ensures.same at c.in_ok-track.ensures)) (rw c.new.ensures at c.add.ensures)
