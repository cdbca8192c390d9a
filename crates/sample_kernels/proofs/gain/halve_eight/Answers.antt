use Rattle.std.proofs.Common.{◌∙◌, map, arith, ap, sym, subst, w16, w32, to_z}
use Rattle.std.specs.Simd.Lanes.{zip2, chunk, put_chunk, Each1}
use Rattle.std.proofs.lemmas.Simd.{length-chunk}
use borrow.Rule.Simd.Lanes.{Asks1}
use borrow.Table.Row.{s_int}
use mir.Syntax.{cast, signed}
use Rattle.sample_kernels.specs.Samples.{half_of}
use Rattle.sample_kernels.proofs.Lanes.{wide_asked, narrow_asked, narrowed, narrowed_is, halves_asked, halves_lanes, halves_fit}
use Rattle.sample_kernels.proofs.gain.halve_eight.Goals as goal

pub overflow_cast-lefts : goal.overflow_cast-lefts
overflow_cast-lefts c = rw c.load_samples-lefts.ensures.lanes (wide_asked (chunk c.args.at 8 c.args.left.now) c.load_samples-lefts.ensures.fit)

pub overflow_cast-rights : goal.overflow_cast-rights
overflow_cast-rights c = rw c.load_samples-rights.ensures.lanes (wide_asked (chunk c.args.at 8 c.args.right.now) c.load_samples-rights.ensures.fit)

pub nonzero_div-halves : goal.nonzero_div-halves
nonzero_div-halves c =
    let within = c.requires.within in
    let lefts = chunk c.args.at 8 c.args.left.now in
    let rights = chunk c.args.at 8 c.args.right.now in
    let lefts_of = c.load_samples-lefts.ensures.fit in
    let rights_of = c.load_samples-rights.ensures.fit in
    let long_left = length-chunk c.args.at 8 c.args.left.now (omega (arith, within.0, within.2)) in
    let long_right = length-chunk c.args.at 8 c.args.right.now (omega (arith, within.0, within.1, within.2)) in
    rw (c.load_samples-lefts.ensures.lanes, c.load_samples-rights.ensures.lanes) (halves_asked lefts rights 8 long_left long_right lefts_of rights_of)

pub overflow_cast-into : goal.overflow_cast-into
overflow_cast-into c =
    let within = c.requires.within in
    let lefts = chunk c.args.at 8 c.args.left.now in
    let rights = chunk c.args.at 8 c.args.right.now in
    let lefts_of = c.load_samples-lefts.ensures.fit in
    let rights_of = c.load_samples-rights.ensures.fit in
    let long_left = length-chunk c.args.at 8 c.args.left.now (omega (arith, within.0, within.2)) in
    let long_right = length-chunk c.args.at 8 c.args.right.now (omega (arith, within.0, within.1, within.2)) in
    rw (c.load_samples-lefts.ensures.lanes, c.load_samples-rights.ensures.lanes)
    (subst (λ l. Each1 (Asks1 (cast signed signed w16) (s_int w32)) l) (sym (halves_lanes lefts rights 8 long_left long_right lefts_of rights_of))
    (narrow_asked (zip2 half_of lefts rights) (halves_fit lefts rights lefts_of rights_of)))

pub returns : goal.returns
returns c =
    let within = c.requires.within in
    let lefts = chunk c.args.at 8 c.args.left.now in
    let rights = chunk c.args.at 8 c.args.right.now in
    let lefts_of = c.load_samples-lefts.ensures.fit in
    let rights_of = c.load_samples-rights.ensures.fit in
    let long_left = length-chunk c.args.at 8 c.args.left.now (omega (arith, within.0, within.2)) in
    let long_right = length-chunk c.args.at 8 c.args.right.now (omega (arith, within.0, within.1, within.2)) in
    rw (c.load_samples-lefts.ensures.lanes, c.load_samples-rights.ensures.lanes)
    (ap (λ l. put_chunk c.args.at c.args.into.now (map (to_z w16) (map narrowed l))) (halves_lanes lefts rights 8 long_left long_right lefts_of rights_of)
    ∙ ap (put_chunk c.args.at c.args.into.now) (narrowed_is (zip2 half_of lefts rights) (halves_fit lefts rights lefts_of rights_of)))
