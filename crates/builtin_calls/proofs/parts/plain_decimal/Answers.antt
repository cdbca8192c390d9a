use Rattle.std.proofs.Common.{refl}
use Rattle.std.proofs.lemmas.Result.{err_from_is_err_and}
use Rattle.builtin_calls.specs.Parts.{plain_decimal}
use Rattle.builtin_calls.proofs.Chained.{ends_with}
use Rattle.builtin_calls.proofs.parts.plain_decimal.Goals as goal

pub returns-in_err-value : goal.returns-in_err-value
unfolding plain_decimal
returns-in_err-value c =
    let p = err_from_is_err_and c.from_residual.result c.from_residual.ensures.1 in
    rw (p.1, p.2) (ends_with c.in_err-value.field-0.0 _ _ c.in_err-value.ensures (λ q. rw (q) refl))

pub returns-in_err-number : goal.returns-in_err-number
unfolding plain_decimal
returns-in_err-number c =
    let p = err_from_is_err_and c.from_residual-in_err-number.result c.from_residual-in_err-number.ensures.1 in
    rw (p.1, p.2) (ends_with c.in_err-number.field-0.0 _ _ c.in_err-number.ensures (λ q. rw (c.in_ok-value.ensures, q) refl))

pub returns : goal.returns
unfolding plain_decimal
returns c = rw (c.in_ok-value.ensures, c.in_ok-number.ensures) refl
