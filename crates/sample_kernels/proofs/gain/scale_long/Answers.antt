use Rattle.std.proofs.Common.{◌≡◌, ◌+◌, ◌∙◌, pos, length, map, take, get_or, w16, w64, FitsSigned, to_z, of_z, arith, rules, refl, ap}
use Rattle.std.specs.Simd.Lanes.{chunk, put_chunk}
use Rattle.std.proofs.lemmas.Int.{to_z-of_z}
use Rattle.std.proofs.lemmas.List.{length-set, length-map}
use Rattle.std.proofs.lemmas.Simd.{length-put_chunk, length-chunk}
use Rattle.sample_kernels.specs.Samples.{scaled}
use Rattle.sample_kernels.proofs.Places.{map_written}
use Rattle.sample_kernels.proofs.Lanes.{map_more}
use Rattle.sample_kernels.proofs.gain.scale_long.Goals as goal

pub loop-into-preserved : goal.loop-into-preserved
loop-into-preserved c =
    let m = to_z w64 (of_z w64 c.args.millionths) in
    let at = c.loop-into.done in
    let into = c.loop-into.into in
    let long = c.loop-into.invariant.0 in
    let same = c.requires.same in
    let is : c.scale_long_eight.new.into ≡ put_chunk at into (map (scaled m) (chunk at 8 c.args.from.now)) =
    c.scale_long_eight.ensures in
    let long_new : length c.scale_long_eight.new.into ≡ length into = ap length is ∙ length-put_chunk at into (map (scaled m) (chunk at 8 c.args.from.now)) in
    let room = length-chunk at 8 c.args.from.now (omega (arith, long, same)) in (
      long_new ∙ long,
      omega (arith, long_new),
      ap (take (at + 8)) is
          ∙ map_more (scaled m) c.args.from.now into _ at 8 (omega (arith, long, same)) (long ∙ same) c.loop-into.invariant.2 refl (length-map (chunk at 8 c.args.from.now) (scaled m) ∙ room),
    )

pub loop-at-preserved : goal.loop-at-preserved
loop-at-preserved c =
    let m = to_z w64 (of_z w64 c.args.millionths) in
    let sample = get_or c.args.from.now c.loop-at.at (pos 0) in
    let fits : FitsSigned w16 c.scaled.result = search rules in
    let fits_from : FitsSigned w16 sample = search rules in
    let long = c.loop-at.invariant.0 in (
      length-set c.loop-at.into c.loop-at.at _ ∙ long,
      map_written (scaled m) c.args.from.now c.loop-at.into c.loop-at.at (pos 0) _ (omega (arith, long, c.requires.same)) (long ∙ c.requires.same) c.loop-at.invariant.1
          (to_z-of_z w16 c.scaled.result fits
          ∙ c.scaled.ensures
          ∙ ap (scaled m) (to_z-of_z w16 sample fits_from)),
    )
