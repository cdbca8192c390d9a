use Rattle.std.proofs.Common.{◌∙◌, map, arith, ap, sym, subst, w16, w32, w64, to_z}
use Rattle.std.specs.Simd.Lanes.{chunk, put_chunk, Each1}
use Rattle.std.proofs.lemmas.Simd.{length-chunk}
use Rattle.std.specs.Prelude.{unsigned_abs}
use Rattle.std.proofs.lemmas.Int.{to_z-of_z}
use Rattle.sample_kernels.specs.Reciprocals.{signed_as}
use Rattle.sample_kernels.proofs.Floors.{low_of, middle_of, high_of}
use borrow.Rule.Simd.Lanes.{Asks1}
use borrow.Table.Row.{s_int}
use mir.Syntax.{cast, signed}
use Rattle.sample_kernels.specs.Samples.{clamped}
use Rattle.sample_kernels.proofs.Lanes.{narrowed, narrow_asked, narrowed_is, clamped_all_fit}
use Rattle.sample_kernels.proofs.Products.{quotient_of, scaled_all, cut_of}
use Rattle.sample_kernels.proofs.gain.scale_eight.Goals as goal

pub overflow_cast-into : goal.overflow_cast-into
overflow_cast-into c =
    let samples = chunk c.args.at 8 c.args.from.now in
    let fit = c.load_samples-samples.ensures.fit in
    let small = c.requires.small in
    let m = c.args.millionths in
    let long = length-chunk c.args.at 8 c.args.from.now (omega (arith, c.requires.within.0, c.requires.within.1)) in
    let same = to_z-of_z w64 m c.ranges.millionths in
    let low = c.digits-low.ensures.low ∙ ap (λ k. signed_as k (low_of (unsigned_abs k))) same in
    let middle = c.digits-low.ensures.middle ∙ ap (λ k. signed_as k (middle_of (unsigned_abs k))) same in
    let high = c.digits-low.ensures.high ∙ ap (λ k. signed_as k (high_of (unsigned_abs k))) same in
    let qs = map (quotient_of m) samples in
    rw c.load_samples-samples.ensures.lanes
    (subst (λ l. Each1 (Asks1 (cast signed signed w16) (s_int w32)) l)
    (sym (cut_of samples m c.digits-low.result.0 c.digits-low.result.1 c.digits-low.result.2 low middle high long fit small))
    (narrow_asked (map clamped qs) (clamped_all_fit qs)))

pub returns : goal.returns
returns c =
    let samples = chunk c.args.at 8 c.args.from.now in
    let fit = c.load_samples-samples.ensures.fit in
    let small = c.requires.small in
    let m = c.args.millionths in
    let long = length-chunk c.args.at 8 c.args.from.now (omega (arith, c.requires.within.0, c.requires.within.1)) in
    let same = to_z-of_z w64 m c.ranges.millionths in
    let low = c.digits-low.ensures.low ∙ ap (λ k. signed_as k (low_of (unsigned_abs k))) same in
    let middle = c.digits-low.ensures.middle ∙ ap (λ k. signed_as k (middle_of (unsigned_abs k))) same in
    let high = c.digits-low.ensures.high ∙ ap (λ k. signed_as k (high_of (unsigned_abs k))) same in
    let qs = map (quotient_of m) samples in
    rw c.load_samples-samples.ensures.lanes
    (ap (λ l. put_chunk c.args.at c.args.into.now (map (to_z w16) (map narrowed l)))
    (cut_of samples m c.digits-low.result.0 c.digits-low.result.1 c.digits-low.result.2 low middle high long fit small)
    ∙ ap (put_chunk c.args.at c.args.into.now) (narrowed_is (map clamped qs) (clamped_all_fit qs) ∙ scaled_all samples m))
