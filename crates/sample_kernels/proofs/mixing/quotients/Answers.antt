use Rattle.std.proofs.Common.{◌∙◌, ap, map, pos, w32, to_z}
use Rattle.std.specs.Prelude.{int_div}
use Rattle.sample_kernels.proofs.Lanes.{back}
use Rattle.sample_kernels.proofs.Quotients.{all_small, sizes_asked, doubles_asked, quotients_asked, quotients_are, quotients_fit}
use Rattle.sample_kernels.proofs.mixing.quotients.Goals as goal

pub overflow_cast-sizes : goal.overflow_cast-sizes
overflow_cast-sizes c = sizes_asked c.args.whole 8 c.args.sums c.requires.long (all_small c.args.whole c.args.sums c.requires.short.0 c.requires.short.1 c.requires.small)

pub overflow_cast-sizes-2 : goal.overflow_cast-sizes-2
overflow_cast-sizes-2 c = doubles_asked c.args.whole 8 c.args.sums c.requires.long (all_small c.args.whole c.args.sums c.requires.short.0 c.requires.short.1 c.requires.small)

pub overflow_cast-quotients : goal.overflow_cast-quotients
overflow_cast-quotients c =
    quotients_asked c.args.whole 8 c.args.inverse c.args.sums c.requires.inverse c.requires.long (all_small c.args.whole c.args.sums c.requires.short.0 c.requires.short.1 c.requires.small)

pub returns : goal.returns
returns c =
    let small = all_small c.args.whole c.args.sums c.requires.short.0 c.requires.short.1 c.requires.small in
    ap (map (to_z w32)) (quotients_are c.args.whole 8 c.args.inverse c.args.sums c.requires.inverse c.requires.long small)
    ∙ back w32 (map (λ sum. int_div sum (pos c.args.whole)) c.args.sums) (quotients_fit c.args.whole c.args.sums small)
