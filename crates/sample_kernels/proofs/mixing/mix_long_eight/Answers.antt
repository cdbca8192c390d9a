use Rattle.std.proofs.Common.{◌∙◌, map, arith, ap, sym, subst, w16, w64, to_z}
use Rattle.std.specs.Simd.Lanes.{chunk, put_chunk, Each1}
use Rattle.std.proofs.lemmas.Simd.{length-chunk}
use borrow.Rule.Simd.Lanes.{Asks1}
use borrow.Table.Row.{s_int}
use mir.Syntax.{cast, signed}
use Rattle.sample_kernels.specs.Mixing.{mixed}
use Rattle.sample_kernels.proofs.MixedSums.{mixed_fit}
use Rattle.sample_kernels.proofs.LongMixes.{long_asked, eight_asked, eight_mixed, narrowed_long, narrow_long_asked, narrowed_long_is}
use Rattle.sample_kernels.proofs.mixing.mix_long_eight.Goals as goal

pub overflow_cast-froms : goal.overflow_cast-froms
overflow_cast-froms c = rw c.load_samples-froms.ensures.lanes (long_asked (chunk c.args.at 8 c.args.from.now) c.load_samples-froms.ensures.fit)

pub overflow_cast-tos : goal.overflow_cast-tos
overflow_cast-tos c = rw c.load_samples-tos.ensures.lanes (long_asked (chunk c.args.at 8 c.args.to.now) c.load_samples-tos.ensures.fit)

pub nonzero_div-into : goal.nonzero_div-into
nonzero_div-into c =
    let from = chunk c.args.at 8 c.args.from.now in
    let to = chunk c.args.at 8 c.args.to.now in
    let within = c.requires.within in
    let long_from = length-chunk c.args.at 8 c.args.from.now within.0 in
    let long_to = length-chunk c.args.at 8 c.args.to.now (omega (arith, within.0, c.requires.same.0)) in
    rw (c.load_samples-froms.ensures.lanes, c.load_samples-tos.ensures.lanes, c.from-wholes.ensures, c.from.ensures)
    (eight_asked from to c.args.first c.args.whole long_from long_to c.load_samples-froms.ensures.fit c.load_samples-tos.ensures.fit within.1 (omega arith))

pub overflow_cast-into : goal.overflow_cast-into
overflow_cast-into c =
    let from = chunk c.args.at 8 c.args.from.now in
    let to = chunk c.args.at 8 c.args.to.now in
    let within = c.requires.within in
    let f = c.load_samples-froms.ensures.fit in
    let g = c.load_samples-tos.ensures.fit in
    let long_from = length-chunk c.args.at 8 c.args.from.now within.0 in
    let long_to = length-chunk c.args.at 8 c.args.to.now (omega (arith, within.0, c.requires.same.0)) in
    rw (c.load_samples-froms.ensures.lanes, c.load_samples-tos.ensures.lanes, c.from-wholes.ensures, c.from.ensures)
    (subst (Each1 (Asks1 (cast signed signed w16) (s_int w64))) (sym (eight_mixed from to c.args.first c.args.whole long_from long_to f g within.1 (omega arith)))
    (narrow_long_asked (mixed from to c.args.first c.args.whole) (mixed_fit from to 8 c.args.first c.args.whole long_from f g within.1)))

pub returns : goal.returns
returns c =
    let from = chunk c.args.at 8 c.args.from.now in
    let to = chunk c.args.at 8 c.args.to.now in
    let within = c.requires.within in
    let f = c.load_samples-froms.ensures.fit in
    let g = c.load_samples-tos.ensures.fit in
    let long_from = length-chunk c.args.at 8 c.args.from.now within.0 in
    let long_to = length-chunk c.args.at 8 c.args.to.now (omega (arith, within.0, c.requires.same.0)) in
    rw (c.load_samples-froms.ensures.lanes, c.load_samples-tos.ensures.lanes, c.from-wholes.ensures, c.from.ensures)
    (ap (λ l. put_chunk c.args.at c.args.into.now (map (to_z w16) (map narrowed_long l))) (eight_mixed from to c.args.first c.args.whole long_from long_to f g within.1 (omega arith))
    ∙ ap (put_chunk c.args.at c.args.into.now) (narrowed_long_is (mixed from to c.args.first c.args.whole) (mixed_fit from to 8 c.args.first c.args.whole long_from f g within.1)))
