use Rattle.std.proofs.Common.{refl}
use Rattle.std.proofs.lemmas.Result.{err_from_is_err_and}
use Rattle.builtin_calls.specs.Builtins.{playlist}
use Rattle.builtin_calls.proofs.Chained.{ends_with}
use Rattle.builtin_calls.proofs.leaves.playlist.Goals as goal

pub returns-in_err-again : goal.returns-in_err-again
unfolding playlist
returns-in_err-again c =
    let p = err_from_is_err_and c.from_residual.result c.from_residual.ensures.1 in
    rw (p.1, p.2) (ends_with c.in_err-again.field-0.0 _ _ c.in_err-again.ensures (λ q. rw (q) refl))

pub returns-in_err-normal : goal.returns-in_err-normal
returns-in_err-normal c =
    let p = err_from_is_err_and c.from_residual-in_err-normal.result c.from_residual-in_err-normal.ensures.1 in
    rw (p.1, p.2) tt

pub returns-in_err-mode : goal.returns-in_err-mode
unfolding playlist
returns-in_err-mode c =
    let p = err_from_is_err_and c.from_residual-in_err-mode.result c.from_residual-in_err-mode.ensures.1 in
    rw (p.1, p.2) (ends_with c.in_err-mode.field-0.0 _ _ (rw c.in_ok-normal.ensures.copied at c.in_err-mode.ensures) (λ q. rw (c.in_ok-again.ensures, q) refl))

pub returns-in_err-file : goal.returns-in_err-file
unfolding playlist
returns-in_err-file c =
    let p = err_from_is_err_and c.from_residual-in_err-file.result c.from_residual-in_err-file.ensures.1 in
    rw (p.1, p.2) (ends_with c.in_err-file.field-0.0 _ _ c.in_err-file.ensures (λ q. rw (c.in_ok-again.ensures, (rw c.in_ok-normal.ensures.copied at c.in_ok-mode.ensures), q) refl))

pub returns-in_err-kind : goal.returns-in_err-kind
unfolding playlist
returns-in_err-kind c =
    let p = err_from_is_err_and c.from_residual-in_err-kind.result c.from_residual-in_err-kind.ensures.1 in
    rw (p.1, p.2) (ends_with c.in_err-kind.field-0.0 _ _ c.in_err-kind.ensures (λ q. rw (c.in_ok-again.ensures, (rw c.in_ok-normal.ensures.copied at c.in_ok-mode.ensures), c.in_ok-file.ensures, q) refl))

pub returns-in_err-is_normal : goal.returns-in_err-is_normal
unfolding playlist
returns-in_err-is_normal c =
    let p = err_from_is_err_and c.from_residual-in_err-is_normal.result c.from_residual-in_err-is_normal.ensures.1 in
    rw (p.1, p.2) (ends_with c.in_err-is_normal.field-0.0 _ _ (rw c.as_str.ensures.same at c.in_err-is_normal.ensures) (λ q. rw (c.in_ok-again.ensures, (rw c.in_ok-normal.ensures.copied at c.in_ok-mode.ensures), c.in_ok-file.ensures, c.in_ok-kind.ensures, q) refl))

pub returns : goal.returns
unfolding playlist
returns c = rw (c.in_ok-again.ensures, (rw c.in_ok-normal.ensures.copied at c.in_ok-mode.ensures), c.in_ok-file.ensures, c.in_ok-kind.ensures, (rw c.as_str.ensures.same at c.in_ok-is_normal.ensures)) (rw c.new.ensures at c.add.ensures)
