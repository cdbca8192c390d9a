use Rattle.std.proofs.Common.{refl}
use Rattle.std.proofs.lemmas.Result.{err_from_is_err_and}
use Rattle.builtin_calls.specs.Builtins.{short_overlap}
use Rattle.builtin_calls.proofs.Chained.{ends_with}
use Rattle.builtin_calls.proofs.single_source.short_overlap.Goals as goal

pub returns-in_err-samples : goal.returns-in_err-samples
unfolding short_overlap
returns-in_err-samples c =
    let p = err_from_is_err_and c.from_residual.result c.from_residual.ensures.1 in
    rw (p.1, p.2) (ends_with c.in_err-samples.field-0.0 _ _ (rw c.plan.ensures.same at c.in_err-samples.ensures) (λ q. rw (q) refl))

pub returns-in_err-room_over : goal.returns-in_err-room_over
unfolding short_overlap
returns-in_err-room_over c =
    let p = err_from_is_err_and c.from_residual-in_err-room_over.result c.from_residual-in_err-room_over.ensures.1 in
    rw (p.1, p.2) (ends_with c.in_err-room_over.field-0.0 _ _ c.in_err-room_over.ensures (λ q. rw ((rw c.plan.ensures.same at c.in_ok-samples.ensures), q) refl))

pub returns-in_err-overlap : goal.returns-in_err-overlap
unfolding short_overlap
returns-in_err-overlap c =
    let p = err_from_is_err_and c.from_residual-in_err-overlap.result c.from_residual-in_err-overlap.ensures.1 in
    rw (p.1, p.2) (ends_with c.in_err-overlap.field-0.0 _ _ c.in_err-overlap.ensures (λ q. rw ((rw c.plan.ensures.same at c.in_ok-samples.ensures), c.in_ok-room_over.ensures, q) refl))

pub returns : goal.returns
unfolding short_overlap
returns c = rw ((rw c.plan.ensures.same at c.in_ok-samples.ensures), c.in_ok-room_over.ensures) c.in_ok-overlap.ensures
