use Rattle.std.proofs.Common.{refl}
use Rattle.std.proofs.lemmas.Result.{err_from_is_err_and}
use Rattle.builtin_calls.specs.Builtins.{buffer_plan}
use Rattle.builtin_calls.proofs.Chained.{ends_with}
use Rattle.builtin_calls.proofs.single_source.buffer_plan.Goals as goal

pub returns-in_err-samples : goal.returns-in_err-samples
unfolding buffer_plan
returns-in_err-samples c =
    let p = err_from_is_err_and c.from_residual.result c.from_residual.ensures.1 in
    rw (p.1, p.2) (ends_with c.in_err-samples.field-0.0 _ _ (rw c.plan.ensures.same at c.in_err-samples.ensures) (λ q. rw (q) refl))

pub returns-in_err-room : goal.returns-in_err-room
unfolding buffer_plan
returns-in_err-room c =
    let p = err_from_is_err_and c.from_residual-in_err-room.result c.from_residual-in_err-room.ensures.1 in
    rw (p.1, p.2) (ends_with c.in_err-room.field-0.0 _ _ (rw c.plan.ensures.same at c.in_err-room.ensures) (λ q. rw ((rw c.plan.ensures.same at c.in_ok-samples.ensures), q) refl))

pub returns-in_err-pre : goal.returns-in_err-pre
unfolding buffer_plan
returns-in_err-pre c =
    let p = err_from_is_err_and c.from_residual-in_err-pre.result c.from_residual-in_err-pre.ensures.1 in
    rw (p.1, p.2) (ends_with c.in_err-pre.field-0.0 _ _ c.in_err-pre.ensures (λ q. rw ((rw c.plan.ensures.same at c.in_ok-samples.ensures), (rw c.plan.ensures.same at c.in_ok-room.ensures), q) refl))
