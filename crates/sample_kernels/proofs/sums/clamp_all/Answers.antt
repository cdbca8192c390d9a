use Rattle.std.proofs.Common.{◌≡◌, ◌+◌, ◌∙◌, pos, length, map, take, get_or, w16, w32, FitsSigned, arith, rules, refl, ap}
use Rattle.std.specs.Simd.Lanes.{chunk}
use Rattle.std.proofs.lemmas.Int.{to_z-of_z}
use Rattle.std.proofs.lemmas.List.{length-set, length-map}
use Rattle.std.proofs.lemmas.Simd.{length-put_chunk, length-chunk}
use Rattle.sample_kernels.specs.Samples.{clamped}
use Rattle.sample_kernels.proofs.Places.{map_written}
use Rattle.sample_kernels.proofs.Lanes.{map_more}
use Rattle.sample_kernels.proofs.sums.clamp_all.Goals as goal

pub loop-into-preserved : goal.loop-into-preserved
loop-into-preserved c =
    let at = c.loop-into.done in
    let into = c.loop-into.into in
    let long = c.loop-into.invariant.0 in
    let same = c.requires.same in
    let long_new : length c.clamp_eight.new.into ≡ length into = ap length c.clamp_eight.ensures ∙ length-put_chunk at into (map clamped (chunk at 8 c.args.sum.now)) in
    let room = length-chunk at 8 c.args.sum.now (omega (arith, long, same)) in (
      long_new ∙ long,
      omega (arith, long_new),
      ap (take (at + 8)) c.clamp_eight.ensures
          ∙ map_more clamped c.args.sum.now into _ at 8 (omega (arith, long, same)) (long ∙ same) c.loop-into.invariant.2 refl (length-map (chunk at 8 c.args.sum.now) clamped ∙ room),
    )

pub loop-at-preserved : goal.loop-at-preserved
loop-at-preserved c =
    let fits : FitsSigned w16 c.clamped.result = search rules in
    let fits_sum : FitsSigned w32 (get_or c.args.sum.now c.loop-at.at (pos 0)) = search rules in
    let is = c.clamped.ensures in
    let long = c.loop-at.invariant.0 in (
      length-set c.loop-at.into c.loop-at.at _ ∙ long,
      map_written clamped c.args.sum.now c.loop-at.into c.loop-at.at (pos 0) _ (omega (arith, long, c.requires.same)) (long ∙ c.requires.same) c.loop-at.invariant.1
          (rw (to_z-of_z w16 c.clamped.result fits, is, to_z-of_z w32 (get_or c.args.sum.now c.loop-at.at (pos 0)) fits_sum) refl),
    )
