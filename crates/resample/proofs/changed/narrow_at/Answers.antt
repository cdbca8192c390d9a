use Rattle.std.proofs.Common.{◌≡◌, ◌+◌, ◌*◌, ◌∙◌, get_or, to_z, w16, FitsSigned, arith, ap, rules, sym}
use Rattle.std.proofs.lemmas.Int.{to_z-of_z}
use Rattle.resample.proofs.Numbers.{narrow_is}
use Rattle.resample.proofs.changed.narrow_at.Goals as goal

pub returns : goal.returns
returns c =
    let low = get_or c.args.bytes.now (2 * c.args.at) 0 in
    let high = get_or c.args.bytes.now (2 * c.args.at + 1) 0 in
    let bits : low + high * 256 ≡ low + 256 * high = omega arith in
    let fits : FitsSigned w16 c.from_le_bytes.result = search rules in
    to_z-of_z w16 c.from_le_bytes.result fits ∙ c.from_le_bytes.ensures ∙ ap (to_z w16) bits ∙ sym (narrow_is c.args.bytes.now c.args.at c.requires)
