use Rattle.std.proofs.Common.{◌≡◌, ◌+◌, ◌∙◌, pos, length, take, get_or, w16, FitsSigned, arith, rules, refl, ap}
use Rattle.std.specs.Simd.Lanes.{zip2, chunk}
use Rattle.std.proofs.lemmas.Int.{to_z-of_z}
use Rattle.std.proofs.lemmas.List.{length-set}
use Rattle.std.proofs.lemmas.Simd.{length-put_chunk}
use Rattle.sample_kernels.specs.Samples.{half_of}
use Rattle.sample_kernels.proofs.Places.{zip2_written}
use Rattle.sample_kernels.proofs.Lanes.{zip2_more}
use Rattle.sample_kernels.proofs.gain.halves.Goals as goal

pub loop-into-preserved : goal.loop-into-preserved
loop-into-preserved c =
    let at = c.loop-into.done in
    let into = c.loop-into.into in
    let long = c.loop-into.invariant.0 in
    let same = c.requires.same in
    let long_new : length c.halve_eight.new.into ≡ length into = ap length c.halve_eight.ensures ∙ length-put_chunk at into (zip2 half_of (chunk at 8 c.args.left.now) (chunk at 8 c.args.right.now)) in (
      long_new ∙ long,
      omega (arith, long_new),
      ap (take (at + 8)) c.halve_eight.ensures
          ∙ zip2_more half_of c.args.left.now c.args.right.now into at 8 (omega (arith, long, same.1)) same.0 (long ∙ same.1) c.loop-into.invariant.2,
    )

pub loop-at-preserved : goal.loop-at-preserved
loop-at-preserved c =
    let fits : FitsSigned w16 c.half_of.result = search rules in
    let fits_left : FitsSigned w16 (get_or c.args.left.now c.loop-at.at (pos 0)) = search rules in
    let fits_right : FitsSigned w16 (get_or c.args.right.now c.loop-at.at (pos 0)) = search rules in
    let is = c.half_of.ensures in
    let long = c.loop-at.invariant.0 in (
      length-set c.loop-at.into c.loop-at.at _ ∙ long,
      zip2_written half_of c.args.left.now c.args.right.now c.loop-at.into c.loop-at.at (pos 0) (pos 0) _
          (omega (arith, long, c.requires.same.1)) c.requires.same.0 (long ∙ c.requires.same.1) c.loop-at.invariant.1
          (rw (to_z-of_z w16 c.half_of.result fits, is, to_z-of_z w16 (get_or c.args.left.now c.loop-at.at (pos 0)) fits_left, to_z-of_z w16 (get_or c.args.right.now c.loop-at.at (pos 0)) fits_right) refl),
    )
