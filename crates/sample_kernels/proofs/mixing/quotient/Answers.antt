use Rattle.std.proofs.Common.{◌≡◌, ◌∙◌, ◌*◌, ◌/◌, ap, w32, w64, FitsSigned, to_z, of_z, rules, arith}
use Rattle.std.specs.Prelude.{unsigned_abs}
use Rattle.std.proofs.lemmas.Int.{to_z-of_z, ints}
use Rattle.sample_kernels.specs.Reciprocals.{signed_as}
use Rattle.sample_kernels.proofs.Inverses.{quotient_is, quotient_small, product_fits}
use Rattle.sample_kernels.proofs.mixing.quotient.Goals as goal

pub overflow_mul-size : goal.overflow_mul-size
overflow_mul-size c =
    let size : c.from.result ≡ unsigned_abs c.args.sum = c.from.ensures ∙ c.unsigned_abs.ensures.value ∙ ap unsigned_abs (to_z-of_z w32 c.args.sum c.ranges.sum) in
    rw (size, c.requires.inverse)
    (record { fits = product_fits (unsigned_abs c.args.sum) c.args.whole c.requires.short.0 c.requires.short.1 c.requires.small })

pub signed_as-requires : goal.signed_as-requires
signed_as-requires c =
    let size : c.from.result ≡ unsigned_abs c.args.sum = c.from.ensures ∙ c.unsigned_abs.ensures.value ∙ ap unsigned_abs (to_z-of_z w32 c.args.sum c.ranges.sum) in
    rw (size, c.requires.inverse) (quotient_small (unsigned_abs c.args.sum) c.args.whole c.requires.short.0 c.requires.short.1 c.requires.small)

pub returns : goal.returns
returns c =
    let sum = c.args.sum in
    let whole = c.args.whole in
    let same = to_z-of_z w32 sum c.ranges.sum in
    let size : c.from.result ≡ unsigned_abs sum = c.from.ensures ∙ c.unsigned_abs.ensures.value ∙ ap unsigned_abs same in
    let wide : FitsSigned w64 sum = let f = c.ranges.sum in omega (arith, ints, f) in
    let number : to_z w64 (of_z w64 c.from-2.result) ≡ sum = ap (λ z. to_z w64 (of_z w64 z)) (c.from-2.ensures ∙ same) ∙ to_z-of_z w64 sum wide in
    let fits : FitsSigned w32 c.signed_as.result = search rules in
    to_z-of_z w32 c.signed_as.result fits
    ∙ c.signed_as.ensures
    ∙ ap (λ z. signed_as z (c.from.result * c.args.inverse / 140737488355328)) number
    ∙ ap (λ n. signed_as sum (n * c.args.inverse / 140737488355328)) size
    ∙ ap (λ n. signed_as sum (unsigned_abs sum * n / 140737488355328)) c.requires.inverse
    ∙ quotient_is sum whole c.requires.short.0 c.requires.short.1 c.requires.small
