use Rattle.std.proofs.Common.{refl}
use Rattle.std.proofs.lemmas.Result.{err_from_is_err_and}
use Rattle.builtin_calls.specs.Parts.{plain_text}
use Rattle.builtin_calls.proofs.Chained.{ends_with}
use Rattle.builtin_calls.proofs.parts.plain_text.Goals as goal

pub returns-in_err-value : goal.returns-in_err-value
unfolding plain_text
returns-in_err-value c =
    let p = err_from_is_err_and c.from_residual.result c.from_residual.ensures.1 in
    rw (p.1, p.2) (ends_with c.in_err-value.field-0.0 _ _ c.in_err-value.ensures (λ q. rw (q) refl))

pub returns-in_err-text : goal.returns-in_err-text
unfolding plain_text
returns-in_err-text c =
    let p = err_from_is_err_and c.from_residual-in_err-text.result c.from_residual-in_err-text.ensures.1 in
    rw (p.1, p.2) (ends_with c.in_err-text.field-0.0 _ _ c.in_err-text.ensures (λ q. rw (c.in_ok-value.ensures, q) refl))

pub returns : goal.returns
unfolding plain_text
returns c = rw (c.in_ok-value.ensures, c.in_ok-text.ensures) refl
