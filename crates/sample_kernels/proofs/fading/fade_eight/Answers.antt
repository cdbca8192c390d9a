use Rattle.std.proofs.Common.{◌≡◌, ◌≤◌, ◌*◌, ◌∙◌, map, pos, take, arith, ap, sym, subst, w16, w32, of_z, to_z, FitsSigned}
use Rattle.std.specs.Prelude.{int_div, unsigned_abs}
use Rattle.std.specs.Simd.Lanes.{put_chunk, Each1}
use Rattle.sample_kernels.specs.Mixing.{faded_each}
use Rattle.sample_kernels.proofs.Fadings.{each_fit, length-sums, quotients_faded, sums_each, sums_read, sums_small, taken_all}
use Rattle.sample_kernels.proofs.Lanes.{narrow_asked, narrowed_is, signed_of, widened}
use Rattle.sample_kernels.proofs.MixedSums.{sum_lanes}
use Rattle.sample_kernels.proofs.fading.fade_eight.Goals as goal

pub quotients-faded-requires-clause-long : goal.quotients-faded-requires-clause-long
quotients-faded-requires-clause-long c =
    let from = c.args.from.now in
    let to = c.args.to.now in
    let parts = c.args.parts.now in
    let eight = c.requires.eight in
    let whole_from = taken_all 8 from eight.0 in
    let whole_to = taken_all 8 to eight.1 in
    let f = subst (Each1 (FitsSigned w16)) whole_from c.load_samples-froms.ensures.fit in
    let g = subst (Each1 (FitsSigned w16)) whole_to c.load_samples-tos.ensures.fit in
    rw (
      c.load_samples-froms.ensures.lanes,
      c.load_samples-tos.ensures.lanes,
      whole_from,
      whole_to,
      taken_all 8 parts eight.2,
      sums_read c.args.whole c.requires.short from to parts eight.0 eight.1 eight.2 f g c.requires.within,
    )
    (length-sums c.args.whole c.requires.short from to parts 8 eight.0 eight.1 eight.2)

pub quotients-faded-requires-clause-small : goal.quotients-faded-requires-clause-small
quotients-faded-requires-clause-small c =
    let from = c.args.from.now in
    let to = c.args.to.now in
    let parts = c.args.parts.now in
    let eight = c.requires.eight in
    let whole_from = taken_all 8 from eight.0 in
    let whole_to = taken_all 8 to eight.1 in
    let f = subst (Each1 (FitsSigned w16)) whole_from c.load_samples-froms.ensures.fit in
    let g = subst (Each1 (FitsSigned w16)) whole_to c.load_samples-tos.ensures.fit in
    rw (c.load_samples-froms.ensures.lanes, c.load_samples-tos.ensures.lanes, whole_from, whole_to, taken_all 8 parts eight.2)
    (subst (Each1 (λ sum. unsigned_abs sum ≤ 32768 * c.args.whole)) (sym (sums_read c.args.whole c.requires.short from to parts eight.0 eight.1 eight.2 f g c.requires.within))
    (sums_small c.args.whole c.requires.short from to parts f g c.requires.within))

pub overflow_cast-into : goal.overflow_cast-into
overflow_cast-into c =
    let from = c.args.from.now in
    let to = c.args.to.now in
    let parts = c.args.parts.now in
    let eight = c.requires.eight in
    let whole_from = taken_all 8 from eight.0 in
    let whole_to = taken_all 8 to eight.1 in
    let f = subst (Each1 (FitsSigned w16)) whole_from c.load_samples-froms.ensures.fit in
    let g = subst (Each1 (FitsSigned w16)) whole_to c.load_samples-tos.ensures.fit in
    let divided : c.quotients-faded.result ≡ map (λ sum. int_div sum (pos c.args.whole)) (map (to_z w32)
    (sum_lanes 8 (map widened (map (of_z w16) c.load_samples-froms.result)) (map widened (map (of_z w16) c.load_samples-tos.result)) (map signed_of (take 8 parts)) c.args.whole)) =
    c.quotients-faded.ensures in
    let is : c.quotients-faded.result ≡ faded_each from to parts c.args.whole =
    rw (
      divided,
      c.load_samples-froms.ensures.lanes,
      c.load_samples-tos.ensures.lanes,
      whole_from,
      whole_to,
      taken_all 8 parts eight.2,
      sums_read c.args.whole c.requires.short from to parts eight.0 eight.1 eight.2 f g c.requires.within,
    )
    (quotients_faded c.args.whole c.requires.short from to parts) in
    rw is (narrow_asked (faded_each from to parts c.args.whole) (each_fit c.args.whole c.requires.short from to parts f g c.requires.within))

pub returns : goal.returns
returns c =
    let from = c.args.from.now in
    let to = c.args.to.now in
    let parts = c.args.parts.now in
    let eight = c.requires.eight in
    let whole_from = taken_all 8 from eight.0 in
    let whole_to = taken_all 8 to eight.1 in
    let f = subst (Each1 (FitsSigned w16)) whole_from c.load_samples-froms.ensures.fit in
    let g = subst (Each1 (FitsSigned w16)) whole_to c.load_samples-tos.ensures.fit in
    let divided : c.quotients-faded.result ≡ map (λ sum. int_div sum (pos c.args.whole)) (map (to_z w32)
    (sum_lanes 8 (map widened (map (of_z w16) c.load_samples-froms.result)) (map widened (map (of_z w16) c.load_samples-tos.result)) (map signed_of (take 8 parts)) c.args.whole)) =
    c.quotients-faded.ensures in
    let is : c.quotients-faded.result ≡ faded_each from to parts c.args.whole =
    rw (
      divided,
      c.load_samples-froms.ensures.lanes,
      c.load_samples-tos.ensures.lanes,
      whole_from,
      whole_to,
      taken_all 8 parts eight.2,
      sums_read c.args.whole c.requires.short from to parts eight.0 eight.1 eight.2 f g c.requires.within,
    )
    (quotients_faded c.args.whole c.requires.short from to parts) in
    rw is (ap (put_chunk c.args.at c.args.into.now) (narrowed_is (faded_each from to parts c.args.whole) (each_fit c.args.whole c.requires.short from to parts f g c.requires.within)))
