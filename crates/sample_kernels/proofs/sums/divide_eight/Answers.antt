use Rattle.std.proofs.Common.{◌∙◌, map, ap, sym, subst, w16, w32, to_z}
use Rattle.std.specs.Simd.Lanes.{zip2, chunk, put_chunk, Each1}
use Rattle.std.proofs.lemmas.Simd.{chunk-fits}
use borrow.Rule.Simd.Lanes.{Asks1}
use borrow.Table.Row.{s_int}
use mir.Syntax.{cast, signed}
use Rattle.sample_kernels.specs.Samples.{mean_of}
use Rattle.sample_kernels.proofs.Lanes.{narrowed, means_asked, means_is, means_fit, narrow_asked, narrowed_is}
use Rattle.sample_kernels.proofs.sums.divide_eight.Goals as goal

pub nonzero_div-into : goal.nonzero_div-into
nonzero_div-into c =
    rw c.load_sums-sums.ensures.lanes
    (means_asked (chunk c.args.at 8 c.args.sum.now) (chunk c.args.at 8 c.args.by.now) c.load_sums-sums.ensures.fit (chunk-fits w16 c.args.at 8 c.args.by.now c.type_inv.by) c.requires.some)

pub overflow_cast-into-2 : goal.overflow_cast-into-2
overflow_cast-into-2 c =
    let sums = chunk c.args.at 8 c.args.sum.now in
    let parts = chunk c.args.at 8 c.args.by.now in
    rw c.load_sums-sums.ensures.lanes
    (subst (λ l. Each1 (Asks1 (cast signed signed w16) (s_int w32)) l) (sym (means_is sums parts c.load_sums-sums.ensures.fit (chunk-fits w16 c.args.at 8 c.args.by.now c.type_inv.by)))
    (narrow_asked (zip2 mean_of sums parts) (means_fit sums parts c.requires.some c.requires.sums)))

pub returns : goal.returns
returns c =
    let sums = chunk c.args.at 8 c.args.sum.now in
    let parts = chunk c.args.at 8 c.args.by.now in
    rw c.load_sums-sums.ensures.lanes
    (ap (λ l. put_chunk c.args.at c.args.into.now (map (to_z w16) (map narrowed l))) (means_is sums parts c.load_sums-sums.ensures.fit (chunk-fits w16 c.args.at 8 c.args.by.now c.type_inv.by))
    ∙ ap (put_chunk c.args.at c.args.into.now) (narrowed_is (zip2 mean_of sums parts) (means_fit sums parts c.requires.some c.requires.sums)))
