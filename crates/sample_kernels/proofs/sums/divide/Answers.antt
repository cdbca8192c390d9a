use Rattle.std.proofs.Common.{◌≡◌, ◌+◌, ◌∙◌, pos, length, take, get_or, w16, w32, FitsSigned, arith, rules, refl, ap}
use Rattle.std.specs.Simd.Lanes.{zip2, chunk}
use Rattle.std.proofs.lemmas.Int.{to_z-of_z}
use Rattle.std.proofs.lemmas.List.{length-set}
use Rattle.std.proofs.lemmas.Simd.{length-put_chunk}
use Rattle.sample_kernels.specs.Samples.{IsSumOf, mean_of}
use Rattle.sample_kernels.proofs.Places.{Each2-at, zip2_written}
use Rattle.sample_kernels.proofs.Lanes.{each_of_all, each-drop, each-take, zip2_more}
use Rattle.sample_kernels.proofs.Silences.{means_of_zeros}
use Rattle.sample_kernels.proofs.sums.divide.Goals as goal

pub divide_eight-requires-clause-some : goal.divide_eight-requires-clause-some
divide_eight-requires-clause-some c =
    let long = c.loop-into.invariant.0 in
    each_of_all _ 0 c.loop-into.done 8 c.args.by.now (omega (arith, long, c.requires.same.0, c.requires.same.1)) c.requires.some

pub divide_eight-requires-clause-sums : goal.divide_eight-requires-clause-sums
divide_eight-requires-clause-sums c =
    each-take IsSumOf 8 _ _ (each-drop IsSumOf c.loop-into.done c.args.by.now c.args.sum.now c.requires.sums)

pub loop-into-preserved : goal.loop-into-preserved
loop-into-preserved c =
    let at = c.loop-into.done in
    let into = c.loop-into.into in
    let long = c.loop-into.invariant.0 in
    let same = c.requires.same in
    let long_new : length c.divide_eight.new.into ≡ length into = ap length c.divide_eight.ensures ∙ length-put_chunk at into (zip2 mean_of (chunk at 8 c.args.sum.now) (chunk at 8 c.args.by.now)) in (
      long_new ∙ long,
      omega (arith, long_new),
      ap (take (at + 8)) c.divide_eight.ensures
          ∙ zip2_more mean_of c.args.sum.now c.args.by.now into at 8 (omega (arith, long, same.1)) same.0 (long ∙ same.1) c.loop-into.invariant.2,
    )

pub mean_of-requires-clause-sum : goal.mean_of-requires-clause-sum
mean_of-requires-clause-sum c =
    let fits : FitsSigned w32 (get_or c.args.sum.now c.loop-at.at (pos 0)) = search rules in
    let long = c.loop-at.invariant.0 in
    rw (to_z-of_z w32 (get_or c.args.sum.now c.loop-at.at (pos 0)) fits)
    (Each2-at IsSumOf c.args.by.now c.args.sum.now c.loop-at.at 0 (pos 0) (omega (arith, long, c.requires.same.0, c.requires.same.1)) (omega (arith, c.requires.same.0)) c.requires.sums)

pub loop-at-preserved : goal.loop-at-preserved
loop-at-preserved c =
    let fits : FitsSigned w16 c.mean_of.result = search rules in
    let fits_sum : FitsSigned w32 (get_or c.args.sum.now c.loop-at.at (pos 0)) = search rules in
    let is = c.mean_of.ensures in
    let long = c.loop-at.invariant.0 in (
      length-set c.loop-at.into c.loop-at.at _ ∙ long,
      zip2_written mean_of c.args.sum.now c.args.by.now c.loop-at.into c.loop-at.at (pos 0) 0 _
          (omega (arith, long, c.requires.same.1)) c.requires.same.0 (long ∙ c.requires.same.1) c.loop-at.invariant.1
          (rw (to_z-of_z w16 c.mean_of.result fits, is, to_z-of_z w32 (get_or c.args.sum.now c.loop-at.at (pos 0)) fits_sum) refl),
    )

pub returns-then-are_zeros : goal.returns-then-are_zeros
returns-then-are_zeros c =
    means_of_zeros c.args.sum.now c.args.into.now c.fill.new.self c.args.by.now c.requires.same.0 c.requires.same.1
    (c.are_zeros.ensures c.if-are_zeros.true) (c.fill.ensures.after (λ y e. e))
