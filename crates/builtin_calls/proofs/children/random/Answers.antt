use Rattle.std.proofs.Common.{FitsSigned, refl, rules, w64}
use Rattle.std.proofs.lemmas.Int.{to_z-of_z}
use Rattle.std.proofs.lemmas.Result.{err_from_is_err_and}
use Rattle.builtin_calls.specs.Builtins.{random}
use Rattle.builtin_calls.proofs.Chained.{ends_with}
use Rattle.builtin_calls.proofs.children.random.Goals as goal

pub returns-in_err-number : goal.returns-in_err-number
unfolding random
returns-in_err-number c =
    let p = err_from_is_err_and c.from_residual.result c.from_residual.ensures.1 in
    rw (p.1, p.2) (ends_with c.in_err-number.field-0.0 _ _ c.in_err-number.ensures (λ q. rw (q) refl))

pub returns-in_err-kind : goal.returns-in_err-kind
unfolding random
returns-in_err-kind c =
    let p = err_from_is_err_and c.from_residual-in_err-kind.result c.from_residual-in_err-kind.ensures.1 in
    rw (p.1, p.2) (ends_with c.in_err-kind.field-0.0 _ _ c.in_err-kind.ensures (λ q. rw (c.in_ok-number.ensures, q) refl))

pub returns-in_err-sources : goal.returns-in_err-sources
unfolding random
returns-in_err-sources c =
    let p = err_from_is_err_and c.from_residual-in_err-sources.result c.from_residual-in_err-sources.ensures.1 in
    rw (p.1, p.2) (ends_with c.in_err-sources.field-0.0 _ _ c.in_err-sources.ensures.given (λ q. rw (c.in_ok-number.ensures, c.in_ok-kind.ensures, q) refl))

pub returns-in_err-seed : goal.returns-in_err-seed
unfolding random
returns-in_err-seed c =
    let fits : FitsSigned w64 c.in_ok-number.number = search rules in
    let p = err_from_is_err_and c.from_residual-in_err-seed.result c.from_residual-in_err-seed.ensures.1 in
    rw (p.1, p.2) (ends_with c.in_err-seed.field-0.0 _ _ (rw (to_z-of_z w64 c.in_ok-number.number fits) at c.in_err-seed.ensures) (λ q. rw (c.in_ok-number.ensures, c.in_ok-kind.ensures, c.in_ok-sources.ensures.given, q) refl))

pub returns-in_err-few : goal.returns-in_err-few
unfolding random
returns-in_err-few c =
    let fits : FitsSigned w64 c.in_ok-number.number = search rules in
    let p = err_from_is_err_and c.from_residual-in_err-few.result c.from_residual-in_err-few.ensures.1 in
    rw (p.1, p.2) (ends_with c.in_err-few.field-0.0 _ _ (rw c.deref.ensures.value at c.in_err-few.ensures.given) (λ q. rw (c.in_ok-number.ensures, c.in_ok-kind.ensures, c.in_ok-sources.ensures.given, (rw (to_z-of_z w64 c.in_ok-number.number fits) at c.in_ok-seed.ensures), q) refl))

pub returns : goal.returns
unfolding random
returns c =
    let fits : FitsSigned w64 c.in_ok-number.number = search rules in
    rw (c.in_ok-number.ensures, c.in_ok-kind.ensures, c.in_ok-sources.ensures.given, (rw (to_z-of_z w64 c.in_ok-number.number fits) at c.in_ok-seed.ensures), (rw c.deref.ensures.value at c.in_ok-few.ensures.given)) (rw c.from_vec.ensures at c.add.ensures)
