use Rattle.std.proofs.Common.{◌≡◌, ◌∙◌, ◌*◌, ◌/◌, ap, w32, w64, FitsSigned, rules}
use Rattle.std.specs.Prelude.{unsigned_abs}
use Rattle.std.proofs.lemmas.Int.{to_z-of_z}
use Rattle.resample.specs.Reciprocals.{signed_as}
use Rattle.resample.proofs.Inverses.{quotient_is, quotient_small, sized}
use Rattle.resample.proofs.midway.quotient.Goals as goal

pub overflow_mul-size : goal.overflow_mul-size
overflow_mul-size c =
    let size : c.unsigned_abs.result ≡ unsigned_abs c.args.sum = c.unsigned_abs.ensures.value ∙ ap unsigned_abs (to_z-of_z w64 c.args.sum c.ranges.sum) in
    rw (size, c.requires.inverse)
    (record { fits = sized (unsigned_abs c.args.sum) c.args.whole c.requires.short.0 c.requires.short.1 c.requires.small })

pub signed_as-requires : goal.signed_as-requires
signed_as-requires c =
    let size : c.unsigned_abs.result ≡ unsigned_abs c.args.sum = c.unsigned_abs.ensures.value ∙ ap unsigned_abs (to_z-of_z w64 c.args.sum c.ranges.sum) in
    rw (size, c.requires.inverse) (quotient_small (unsigned_abs c.args.sum) c.args.whole c.requires.short.0 c.requires.short.1 c.requires.small)

pub returns : goal.returns
returns c =
    let sum = c.args.sum in
    let whole = c.args.whole in
    let same = to_z-of_z w64 sum c.ranges.sum in
    let size : c.unsigned_abs.result ≡ unsigned_abs sum = c.unsigned_abs.ensures.value ∙ ap unsigned_abs same in
    let fits : FitsSigned w32 c.signed_as.result = search rules in
    to_z-of_z w32 c.signed_as.result fits
    ∙ c.signed_as.ensures
    ∙ ap (λ z. signed_as z (c.unsigned_abs.result * c.args.inverse / 281474976710656)) same
    ∙ ap (λ n. signed_as sum (n * c.args.inverse / 281474976710656)) size
    ∙ ap (λ n. signed_as sum (unsigned_abs sum * n / 281474976710656)) c.requires.inverse
    ∙ quotient_is sum whole c.requires.short.0 c.requires.short.1 c.requires.small
