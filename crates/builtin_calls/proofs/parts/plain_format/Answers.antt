use Rattle.std.proofs.Common.{refl}
use Rattle.std.proofs.lemmas.Result.{err_from_is_err_and}
use Rattle.builtin_calls.specs.Parts.{plain_format}
use Rattle.builtin_calls.proofs.Chained.{ends_with}
use Rattle.builtin_calls.proofs.parts.plain_format.Goals as goal

pub returns-in_err-value : goal.returns-in_err-value
unfolding plain_format
returns-in_err-value c =
    let p = err_from_is_err_and c.from_residual.result c.from_residual.ensures.1 in
    rw (p.1, p.2) (ends_with c.in_err-value.field-0.0 _ _ c.in_err-value.ensures (λ q. rw (q) refl))

pub returns-in_err-wide : goal.returns-in_err-wide
unfolding plain_format
returns-in_err-wide c =
    let p = err_from_is_err_and c.from_residual-in_err-wide.result c.from_residual-in_err-wide.ensures.1 in
    rw (p.1, p.2) (ends_with c.in_err-wide.field-0.0 _ _ c.in_err-wide.ensures (λ q. rw (c.in_ok-value.ensures, q) refl))

pub returns : goal.returns
unfolding plain_format
returns c = rw (c.in_ok-value.ensures, c.in_ok-wide.ensures) refl
