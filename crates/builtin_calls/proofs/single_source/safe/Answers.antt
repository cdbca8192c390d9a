use Rattle.std.proofs.Common.{refl}
use Rattle.std.proofs.lemmas.Result.{err_from_is_err_and}
use Rattle.builtin_calls.specs.Builtins.{safe}
use Rattle.builtin_calls.proofs.Chained.{ends_with}
use Rattle.builtin_calls.proofs.single_source.safe.Goals as goal

pub returns-in_err-silence : goal.returns-in_err-silence
unfolding safe
returns-in_err-silence c =
    let p = err_from_is_err_and c.from_residual.result c.from_residual.ensures.1 in
    rw (p.1, p.2) (ends_with c.in_err-silence.field-0.0 _ _ (rw c.new.ensures at c.in_err-silence.ensures.given) (λ q. rw (q) refl))

pub returns-in_err-children : goal.returns-in_err-children
returns-in_err-children c =
    let p = err_from_is_err_and c.from_residual-in_err-children.result c.from_residual-in_err-children.ensures.1 in
    rw (p.1, p.2) tt

pub returns : goal.returns
unfolding safe
returns c = rw ((rw c.new.ensures at c.in_ok-silence.ensures.given)) (rw c.in_ok-children.ensures at c.add.ensures)
