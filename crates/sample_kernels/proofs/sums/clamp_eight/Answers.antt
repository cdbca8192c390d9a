use Rattle.std.proofs.Common.{◌∙◌, map, arith, ap, sym, subst, w16, w32, to_z}
use Rattle.std.specs.Simd.Lanes.{chunk, put_chunk, Each1}
use Rattle.std.proofs.lemmas.Simd.{length-chunk}
use borrow.Rule.Simd.Lanes.{Asks1}
use borrow.Table.Row.{s_int}
use mir.Syntax.{cast, signed}
use Rattle.sample_kernels.specs.Samples.{clamped}
use Rattle.sample_kernels.proofs.Lanes.{narrowed, narrow_asked, narrowed_is, clamped_lanes, clamped_all_fit}
use Rattle.sample_kernels.proofs.sums.clamp_eight.Goals as goal

pub overflow_cast-into : goal.overflow_cast-into
overflow_cast-into c =
    let sums = chunk c.args.at 8 c.args.sum.now in
    let long = length-chunk c.args.at 8 c.args.sum.now (omega (arith, c.requires.within.0, c.requires.within.1)) in
    rw c.load_sums-sums.ensures.lanes
    (subst (λ l. Each1 (Asks1 (cast signed signed w16) (s_int w32)) l) (sym (clamped_lanes sums 8 long c.load_sums-sums.ensures.fit))
    (narrow_asked (map clamped sums) (clamped_all_fit sums)))

pub returns : goal.returns
returns c =
    let sums = chunk c.args.at 8 c.args.sum.now in
    let long = length-chunk c.args.at 8 c.args.sum.now (omega (arith, c.requires.within.0, c.requires.within.1)) in
    rw c.load_sums-sums.ensures.lanes
    (ap (λ l. put_chunk c.args.at c.args.into.now (map (to_z w16) (map narrowed l))) (clamped_lanes sums 8 long c.load_sums-sums.ensures.fit)
    ∙ ap (put_chunk c.args.at c.args.into.now) (narrowed_is (map clamped sums) (clamped_all_fit sums)))
