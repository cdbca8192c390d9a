use Rattle.std.proofs.Common.{◌≡◌, ◌∙◌, pos, get_or, ap, sym, w16, FitsSigned, rules}
use Rattle.std.proofs.lemmas.Int.{to_z-of_z}
use Rattle.resample.specs.Bytes.{samples_at}
use Rattle.resample.proofs.Numbers.{there_narrow, there_wide}
use Rattle.resample.proofs.changed.number_at.Goals as goal

pub wide_at-requires : goal.wide_at-requires
wide_at-requires c = there_wide c.args.wide c.args.bytes.now c.args.at c.if-wide.true c.requires

pub narrow_at-requires : goal.narrow_at-requires
narrow_at-requires c = there_narrow c.args.wide c.args.bytes.now c.args.at c.if-wide.false c.requires

pub returns-then-wide : goal.returns-then-wide
returns-then-wide c =
    let fits : FitsSigned w16 c.wide_at.result = search rules in
    to_z-of_z w16 c.wide_at.result fits ∙ c.wide_at.ensures ∙ sym (ap (λ w. get_or (samples_at w c.args.bytes.now) c.args.at (pos 0)) c.if-wide.true)

pub returns-else-wide : goal.returns-else-wide
returns-else-wide c =
    let fits : FitsSigned w16 c.narrow_at.result = search rules in
    to_z-of_z w16 c.narrow_at.result fits ∙ c.narrow_at.ensures ∙ sym (ap (λ w. get_or (samples_at w c.args.bytes.now) c.args.at (pos 0)) c.if-wide.false)
