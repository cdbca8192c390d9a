use Rattle.std.proofs.Common.{◌∙◌, map, arith, ap, sym, subst, w16, w32, to_z}
use Rattle.std.specs.Simd.Lanes.{chunk, put_chunk, Each1}
use Rattle.std.proofs.lemmas.Simd.{length-chunk}
use borrow.Rule.Simd.Lanes.{Asks1}
use borrow.Table.Row.{s_int}
use mir.Syntax.{cast, signed}
use Rattle.sample_kernels.specs.Samples.{clamped}
use Rattle.sample_kernels.proofs.Cuts.{cut_abs}
use Rattle.sample_kernels.proofs.Lanes.{narrowed, narrow_asked, narrowed_is, clamped_all_fit}
use Rattle.sample_kernels.proofs.Products.{quotient_of, scaled_all}
use Rattle.sample_kernels.proofs.LongMixes.{long_asked}
use Rattle.sample_kernels.proofs.LongScales.{IsFactor, eight_divisions_asked, eight_shorter_asked, eight_cut}
use Rattle.sample_kernels.proofs.gain.scale_long_eight.Goals as goal

pub overflow_cast-samples : goal.overflow_cast-samples
overflow_cast-samples c = rw c.load_samples-samples.ensures.lanes (long_asked (chunk c.args.at 8 c.args.from.now) c.load_samples-samples.ensures.fit)

pub nonzero_div-quotients : goal.nonzero_div-quotients
nonzero_div-quotients c =
    let samples = chunk c.args.at 8 c.args.from.now in
    let m = c.args.millionths in
    let long = length-chunk c.args.at 8 c.args.from.now (omega (arith, c.requires.within.0, c.requires.within.1)) in
    let is : IsFactor m = record { fits = c.ranges.millionths; small = cut_abs m c.requires.low c.requires.high } in
    rw c.load_samples-samples.ensures.lanes (eight_divisions_asked samples m long c.load_samples-samples.ensures.fit is)

pub overflow_cast-quotients : goal.overflow_cast-quotients
overflow_cast-quotients c =
    let samples = chunk c.args.at 8 c.args.from.now in
    let m = c.args.millionths in
    let long = length-chunk c.args.at 8 c.args.from.now (omega (arith, c.requires.within.0, c.requires.within.1)) in
    let is : IsFactor m = record { fits = c.ranges.millionths; small = cut_abs m c.requires.low c.requires.high } in
    rw c.load_samples-samples.ensures.lanes (eight_shorter_asked samples m long c.load_samples-samples.ensures.fit is)

pub overflow_cast-into : goal.overflow_cast-into
overflow_cast-into c =
    let samples = chunk c.args.at 8 c.args.from.now in
    let m = c.args.millionths in
    let long = length-chunk c.args.at 8 c.args.from.now (omega (arith, c.requires.within.0, c.requires.within.1)) in
    let is : IsFactor m = record { fits = c.ranges.millionths; small = cut_abs m c.requires.low c.requires.high } in
    let qs = map (quotient_of m) samples in
    rw c.load_samples-samples.ensures.lanes
    (subst (Each1 (Asks1 (cast signed signed w16) (s_int w32))) (sym (eight_cut samples m long c.load_samples-samples.ensures.fit is)) (narrow_asked (map clamped qs) (clamped_all_fit qs)))

pub returns : goal.returns
returns c =
    let samples = chunk c.args.at 8 c.args.from.now in
    let m = c.args.millionths in
    let long = length-chunk c.args.at 8 c.args.from.now (omega (arith, c.requires.within.0, c.requires.within.1)) in
    let is : IsFactor m = record { fits = c.ranges.millionths; small = cut_abs m c.requires.low c.requires.high } in
    let qs = map (quotient_of m) samples in
    rw c.load_samples-samples.ensures.lanes
    (ap (λ l. put_chunk c.args.at c.args.into.now (map (to_z w16) (map narrowed l))) (eight_cut samples m long c.load_samples-samples.ensures.fit is)
    ∙ ap (put_chunk c.args.at c.args.into.now) (narrowed_is (map clamped qs) (clamped_all_fit qs) ∙ scaled_all samples m))
