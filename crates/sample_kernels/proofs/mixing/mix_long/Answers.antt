use Rattle.std.proofs.Common.{◌≡◌, ◌+◌, ◌∙◌, pos, length, take, arith, get_or, to_z, of_z, w16, FitsSigned, ap, rules}
use Rattle.std.specs.Simd.Lanes.{chunk, put_chunk}
use Rattle.std.proofs.lemmas.Simd.{length-put_chunk}
use Rattle.std.proofs.lemmas.List.{length-set}
use Rattle.std.proofs.lemmas.Int.{to_z-of_z}
use Rattle.sample_kernels.specs.Mixing.{faded, mixed}
use Rattle.sample_kernels.proofs.Mixes.{more_mixed, more_mixed_chunk}
use Rattle.sample_kernels.proofs.mixing.mix_long.Goals as goal

pub loop-done-preserved : goal.loop-done-preserved
loop-done-preserved c =
    let at = c.loop-done.done in
    let from = c.args.from.now in
    let to = c.args.to.now in
    let into = c.loop-done.into in
    let ys = mixed (chunk at 8 from) (chunk at 8 to) (c.args.start + at) c.args.whole in
    let is : c.mix_long_eight.new.into ≡ put_chunk at into ys = c.mix_long_eight.ensures in
    let long_new : length c.mix_long_eight.new.into ≡ length into = ap length is ∙ length-put_chunk at into ys in (
      long_new ∙ c.loop-done.invariant.0,
      omega arith,
      ap (take (at + 8)) is ∙ more_mixed_chunk from to into c.args.start c.args.whole at 8 c.requires.same.0 c.loop-done.invariant.0 (omega arith) c.loop-done.invariant.2,
    )

pub loop-at-preserved : goal.loop-at-preserved
loop-at-preserved c =
    let fits : FitsSigned w16 c.mixed_sample.result = search rules in
    let fits_from : FitsSigned w16 (get_or c.args.from.now c.loop-at.at (pos 0)) = search rules in
    let fits_to : FitsSigned w16 (get_or c.args.to.now c.loop-at.at (pos 0)) = search rules in
    let sample : to_z w16 (of_z w16 c.mixed_sample.result) ≡ faded (get_or c.args.from.now c.loop-at.at (pos 0)) (get_or c.args.to.now c.loop-at.at (pos 0)) (c.args.start + c.loop-at.at) c.args.whole =
    to_z-of_z w16 c.mixed_sample.result fits ∙ c.mixed_sample.ensures
    ∙ ap (λ x. faded x (to_z w16 (of_z w16 (get_or c.args.to.now c.loop-at.at (pos 0)))) (c.args.start + c.loop-at.at) c.args.whole) (to_z-of_z w16 (get_or c.args.from.now c.loop-at.at (pos 0)) fits_from)
    ∙ ap (λ x. faded (get_or c.args.from.now c.loop-at.at (pos 0)) x (c.args.start + c.loop-at.at) c.args.whole) (to_z-of_z w16 (get_or c.args.to.now c.loop-at.at (pos 0)) fits_to) in
    let long = length-set c.loop-at.into c.loop-at.at (to_z w16 (of_z w16 c.mixed_sample.result)) in (
      long ∙ c.loop-at.invariant.0,
      more_mixed c.args.from.now c.args.to.now c.loop-at.into c.args.start c.args.whole c.loop-at.at (to_z w16 (of_z w16 c.mixed_sample.result)) c.requires.same.0 c.loop-at.invariant.0 c.loop-at-test.true c.loop-at.invariant.1 sample,
    )
