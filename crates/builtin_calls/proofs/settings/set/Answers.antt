use Rattle.std.proofs.Common.{refl}
use Rattle.std.proofs.lemmas.Result.{err_from_is_err_and}
use Rattle.builtin_calls.specs.Builtins.{set}
use Rattle.builtin_calls.proofs.Chained.{ends_with}
use Rattle.builtin_calls.proofs.settings.set.Goals as goal

pub returns-in_err-key : goal.returns-in_err-key
unfolding set
returns-in_err-key c =
    let p = err_from_is_err_and c.from_residual.result c.from_residual.ensures.1 in
    rw (p.1, p.2) (ends_with c.in_err-key.field-0.0 _ _ c.in_err-key.ensures (λ q. rw (q) refl))

pub returns-in_err-value : goal.returns-in_err-value
unfolding set
returns-in_err-value c =
    let p = err_from_is_err_and c.from_residual-in_err-value.result c.from_residual-in_err-value.ensures.1 in
    rw (p.1, p.2) (ends_with c.in_err-value.field-0.0 _ _ c.in_err-value.ensures (λ q. rw (c.in_ok-key.ensures, q) refl))

pub returns : goal.returns
unfolding set
returns c = rw (c.in_ok-key.ensures, c.in_ok-value.ensures) (rw c.as_str.ensures.same at c.setting.ensures)
