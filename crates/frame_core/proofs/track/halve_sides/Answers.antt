use Rattle.std.proofs.Common.{◌≡◌, ◌<◌, ◌∙◌, ◌+ℤ◌, ℤ, pos, length, get_or, int_div, to_z, of_z, w16, FitsSigned, arith, refl, ap, sym, rules}
use Rattle.std.proofs.lemmas.List.{length-set}
use Rattle.std.proofs.lemmas.Int.{to_z-of_z}
use Rattle.frame_core.proofs.Halves.{half, halved, halved_more, halved_all}
use Rattle.frame_core.proofs.track.halve_sides.Goals as goal

pub loop-j-preserved : goal.loop-j-preserved
loop-j-preserved c =
    let j = c.loop-j.j in
    let now = c.loop-j.invariant in
    let left : ℤ = get_or c.loop-j.left j (pos 0) in
    let right : ℤ = get_or c.args.right.now j (pos 0) in
    let fit_left : FitsSigned w16 (get_or c.loop-j.left j (pos 0)) = search rules in
    let fit_right : FitsSigned w16 (get_or c.args.right.now j (pos 0)) = search rules in
    let one = c.half_sum.result in
    let fit : FitsSigned w16 c.half_sum.result = search rules in
    let less : j < length c.args.left.now = omega (arith, c.loop-j-test.true, now.long) in
    let is = c.half_sum.ensures ∙ ap (λ x. int_div (x +ℤ to_z w16 (of_z w16 right)) (pos 2)) (to_z-of_z w16 left fit_left)
    ∙ ap (λ y. int_div (left +ℤ y) (pos 2)) (to_z-of_z w16 right fit_right) in
    record {
      long = length-set c.loop-j.left j (to_z w16 (of_z w16 one)) ∙ now.long;
      left = halved_more j c.args.left.now c.args.right.now c.loop-j.left (to_z w16 (of_z w16 one)) less (omega (arith, less, c.requires)) now.left (to_z-of_z w16 one fit ∙ is);
    }

pub returns : goal.returns
returns c = c.loop-j.invariant.left ∙ halved_all c.loop-j.j c.args.left.now c.args.right.now (omega (arith, c.loop-j-test.false, c.loop-j.invariant.long)) c.requires
