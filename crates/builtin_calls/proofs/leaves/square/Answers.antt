use Rattle.std.proofs.Common.{refl}
use Rattle.std.proofs.lemmas.Result.{err_from_is_err_and}
use Rattle.builtin_calls.specs.Builtins.{square}
use Rattle.builtin_calls.proofs.Chained.{ends_with}
use Rattle.builtin_calls.proofs.leaves.square.Goals as goal

pub returns-in_err-frequency : goal.returns-in_err-frequency
unfolding square
returns-in_err-frequency c =
    let p = err_from_is_err_and c.from_residual.result c.from_residual.ensures.1 in
    rw (p.1, p.2) (ends_with c.in_err-frequency.field-0.0 _ _ c.in_err-frequency.ensures (λ q. rw (q) refl))

pub returns-in_err-kind : goal.returns-in_err-kind
unfolding square
returns-in_err-kind c =
    let p = err_from_is_err_and c.from_residual-in_err-kind.result c.from_residual-in_err-kind.ensures.1 in
    rw (p.1, p.2) (ends_with c.in_err-kind.field-0.0 _ _ c.in_err-kind.ensures (λ q. rw (c.in_ok-frequency.ensures, q) refl))

pub returns-in_err-pitch : goal.returns-in_err-pitch
unfolding square
returns-in_err-pitch c =
    let p = err_from_is_err_and c.from_residual-in_err-pitch.result c.from_residual-in_err-pitch.ensures.1 in
    rw (p.1, p.2) (ends_with c.in_err-pitch.field-0.0 _ _ c.in_err-pitch.ensures (λ q. rw (c.in_ok-frequency.ensures, c.in_ok-kind.ensures, q) refl))

pub returns : goal.returns
unfolding square
returns c = rw (c.in_ok-frequency.ensures, c.in_ok-kind.ensures, c.in_ok-pitch.ensures) (rw c.new.ensures at c.add.ensures)
