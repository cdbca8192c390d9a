use Rattle.std.proofs.Common.{◌≡◌, ◌∙◌, map, pos, arith, ap, sym, subst, w32, to_z}
use Rattle.std.specs.Prelude.{int_div, unsigned_abs, ◌≤◌, ◌*◌}
use Rattle.std.specs.Simd.Lanes.{chunk, put_chunk, Each1}
use Rattle.std.proofs.lemmas.Simd.{length-chunk}
use Rattle.sample_kernels.specs.Mixing.{mixed}
use Rattle.sample_kernels.proofs.Lanes.{narrow_asked, narrowed_is}
use Rattle.sample_kernels.proofs.MixedSums.{eight_lanes, sums_read, sums_small, length-sums, quotients_mixed, mixed_fit}
use Rattle.sample_kernels.proofs.mixing.mix_eight.Goals as goal

pub quotients-mixed-requires-clause-long : goal.quotients-mixed-requires-clause-long
quotients-mixed-requires-clause-long c =
    let from = chunk c.args.at 8 c.args.from.now in
    let to = chunk c.args.at 8 c.args.to.now in
    let within = c.requires.within in
    let long_from = length-chunk c.args.at 8 c.args.from.now within.0 in
    let long_to = length-chunk c.args.at 8 c.args.to.now (omega (arith, within.0, c.requires.same.0)) in
    let is = sums_read from to c.args.first c.args.whole long_from long_to c.load_samples-froms.ensures.fit c.load_samples-tos.ensures.fit within.1 c.requires.short in
    rw (c.load_samples-froms.ensures.lanes, c.load_samples-tos.ensures.lanes, is) (length-sums from to c.args.first c.args.whole (long_to ∙ sym long_from) ∙ long_from)

pub quotients-mixed-requires-clause-small : goal.quotients-mixed-requires-clause-small
quotients-mixed-requires-clause-small c =
    let from = chunk c.args.at 8 c.args.from.now in
    let to = chunk c.args.at 8 c.args.to.now in
    let within = c.requires.within in
    let long_from = length-chunk c.args.at 8 c.args.from.now within.0 in
    let long_to = length-chunk c.args.at 8 c.args.to.now (omega (arith, within.0, c.requires.same.0)) in
    let is = sums_read from to c.args.first c.args.whole long_from long_to c.load_samples-froms.ensures.fit c.load_samples-tos.ensures.fit within.1 c.requires.short in
    rw (c.load_samples-froms.ensures.lanes, c.load_samples-tos.ensures.lanes)
    (subst (Each1 (λ sum. unsigned_abs sum ≤ 32768 * c.args.whole)) (sym is)
    (sums_small from to 8 c.args.first c.args.whole long_from c.load_samples-froms.ensures.fit c.load_samples-tos.ensures.fit within.1))

pub overflow_cast-into : goal.overflow_cast-into
overflow_cast-into c =
    let from = chunk c.args.at 8 c.args.from.now in
    let to = chunk c.args.at 8 c.args.to.now in
    let within = c.requires.within in
    let f = c.load_samples-froms.ensures.fit in
    let g = c.load_samples-tos.ensures.fit in
    let long_from = length-chunk c.args.at 8 c.args.from.now within.0 in
    let long_to = length-chunk c.args.at 8 c.args.to.now (omega (arith, within.0, c.requires.same.0)) in
    let divided : c.quotients-mixed.result ≡ map (λ sum. int_div sum (pos c.args.whole)) (map (to_z w32) (eight_lanes c.load_samples-froms.result c.load_samples-tos.result c.args.first c.args.whole)) =
    c.quotients-mixed.ensures in
    let is : c.quotients-mixed.result ≡ mixed from to c.args.first c.args.whole =
    rw (divided, c.load_samples-froms.ensures.lanes, c.load_samples-tos.ensures.lanes, sums_read from to c.args.first c.args.whole long_from long_to f g within.1 c.requires.short)
    (quotients_mixed from to c.args.first c.args.whole) in
    rw is (narrow_asked (mixed from to c.args.first c.args.whole) (mixed_fit from to 8 c.args.first c.args.whole long_from f g within.1))

pub returns : goal.returns
returns c =
    let from = chunk c.args.at 8 c.args.from.now in
    let to = chunk c.args.at 8 c.args.to.now in
    let within = c.requires.within in
    let f = c.load_samples-froms.ensures.fit in
    let g = c.load_samples-tos.ensures.fit in
    let long_from = length-chunk c.args.at 8 c.args.from.now within.0 in
    let long_to = length-chunk c.args.at 8 c.args.to.now (omega (arith, within.0, c.requires.same.0)) in
    let divided : c.quotients-mixed.result ≡ map (λ sum. int_div sum (pos c.args.whole)) (map (to_z w32) (eight_lanes c.load_samples-froms.result c.load_samples-tos.result c.args.first c.args.whole)) =
    c.quotients-mixed.ensures in
    let is : c.quotients-mixed.result ≡ mixed from to c.args.first c.args.whole =
    rw (divided, c.load_samples-froms.ensures.lanes, c.load_samples-tos.ensures.lanes, sums_read from to c.args.first c.args.whole long_from long_to f g within.1 c.requires.short)
    (quotients_mixed from to c.args.first c.args.whole) in
    rw is (ap (put_chunk c.args.at c.args.into.now) (narrowed_is (mixed from to c.args.first c.args.whole) (mixed_fit from to 8 c.args.first c.args.whole long_from f g within.1)))
