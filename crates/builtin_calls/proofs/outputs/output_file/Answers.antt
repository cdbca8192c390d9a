use Rattle.std.proofs.Common.{refl}
use Rattle.std.proofs.lemmas.Result.{err_from_is_err_and}
use Rattle.builtin_calls.specs.Builtins.{output_file}
use Rattle.builtin_calls.proofs.Chained.{ends_with}
use Rattle.builtin_calls.proofs.outputs.output_file.Goals as goal

pub returns-in_err-fallible : goal.returns-in_err-fallible
unfolding output_file
returns-in_err-fallible c =
    let p = err_from_is_err_and c.from_residual.result c.from_residual.ensures.1 in
    rw (p.1, p.2) (ends_with c.in_err-fallible.field-0.0 _ _ c.in_err-fallible.ensures (λ q. rw (q) refl))

pub returns-in_err-wide : goal.returns-in_err-wide
unfolding output_file
returns-in_err-wide c =
    let p = err_from_is_err_and c.from_residual-in_err-wide.result c.from_residual-in_err-wide.ensures.1 in
    rw (p.1, p.2) (ends_with c.in_err-wide.field-0.0 _ _ c.in_err-wide.ensures (λ q. rw (c.in_ok-fallible.ensures, q) refl))

pub returns-in_err-name : goal.returns-in_err-name
unfolding output_file
returns-in_err-name c =
    let p = err_from_is_err_and c.from_residual-in_err-name.result c.from_residual-in_err-name.ensures.1 in
    rw (p.1, p.2) (ends_with c.in_err-name.field-0.0 _ _ c.in_err-name.ensures (λ q. rw (c.in_ok-fallible.ensures, c.in_ok-wide.ensures, q) refl))

pub returns-in_err-kind : goal.returns-in_err-kind
unfolding output_file
returns-in_err-kind c =
    let p = err_from_is_err_and c.from_residual-in_err-kind.result c.from_residual-in_err-kind.ensures.1 in
    rw (p.1, p.2) (ends_with c.in_err-kind.field-0.0 _ _ c.in_err-kind.ensures (λ q. rw (c.in_ok-fallible.ensures, c.in_ok-wide.ensures, c.in_ok-name.ensures, q) refl))

pub returns-in_err-source : goal.returns-in_err-source
unfolding output_file
returns-in_err-source c =
    let p = err_from_is_err_and c.from_residual-in_err-source.result c.from_residual-in_err-source.ensures.1 in
    rw (p.1, p.2) (ends_with c.in_err-source.field-0.0 _ _ c.in_err-source.ensures.given (λ q. rw (c.in_ok-fallible.ensures, c.in_ok-wide.ensures, c.in_ok-name.ensures, c.in_ok-kind.ensures, q) refl))

pub returns : goal.returns
unfolding output_file
returns c = rw (c.in_ok-fallible.ensures, c.in_ok-wide.ensures, c.in_ok-name.ensures, c.in_ok-kind.ensures, c.in_ok-source.ensures.given) c.add_output.ensures
