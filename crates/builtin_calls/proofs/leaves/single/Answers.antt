use Rattle.std.proofs.Common.{refl}
use Rattle.std.proofs.lemmas.Result.{err_from_is_err_and}
use Rattle.builtin_calls.specs.Builtins.{single}
use Rattle.builtin_calls.proofs.Chained.{ends_with}
use Rattle.builtin_calls.proofs.leaves.single.Goals as goal

pub returns-in_err-file : goal.returns-in_err-file
unfolding single
returns-in_err-file c =
    let p = err_from_is_err_and c.from_residual.result c.from_residual.ensures.1 in
    rw (p.1, p.2) (ends_with c.in_err-file.field-0.0 _ _ c.in_err-file.ensures (λ q. rw (q) refl))

pub returns-in_err-kind : goal.returns-in_err-kind
unfolding single
returns-in_err-kind c =
    let p = err_from_is_err_and c.from_residual-in_err-kind.result c.from_residual-in_err-kind.ensures.1 in
    rw (p.1, p.2) (ends_with c.in_err-kind.field-0.0 _ _ c.in_err-kind.ensures (λ q. rw (c.in_ok-file.ensures, q) refl))

pub returns : goal.returns
unfolding single
returns c = rw (c.in_ok-file.ensures, c.in_ok-kind.ensures) (rw c.new.ensures at c.add.ensures)
