use Rattle.std.proofs.Common.{refl}
use Rattle.std.proofs.lemmas.Result.{err_from_is_err_and}
use Rattle.builtin_calls.specs.Settings.{set_duration}
use Rattle.builtin_calls.proofs.Chained.{ends_with}
use Rattle.builtin_calls.proofs.settings.set_duration.Goals as goal

pub returns-in_err-opened : goal.returns-in_err-opened
unfolding set_duration
returns-in_err-opened c =
    let p = err_from_is_err_and c.from_residual.result c.from_residual.ensures.1 in
    rw (p.1, p.2) (ends_with c.in_err-opened.field-0.0 _ _ c.in_err-opened.ensures (λ q. rw (q) refl))

pub returns-in_err-duration : goal.returns-in_err-duration
unfolding set_duration
returns-in_err-duration c =
    let p = err_from_is_err_and c.from_residual-in_err-duration.result c.from_residual-in_err-duration.ensures.1 in
    rw (p.1, p.2) (ends_with c.in_err-duration.field-0.0 _ _ c.in_err-duration.ensures (λ q. rw (c.in_ok-opened.ensures, q) refl))

pub returns : goal.returns
unfolding set_duration
returns c = rw (c.in_ok-opened.ensures, c.in_ok-duration.ensures) refl
