use Rattle.std.proofs.Common.{w16, w32}
use Rattle.std.proofs.lemmas.Int.{to_z-of_z}
use Rattle.sample_kernels.specs.Mixing.{faded}
use Rattle.sample_kernels.proofs.Bounds.{faded_fits}
use Rattle.sample_kernels.proofs.Inverses.{sum_of, short_sum, sum_fits, sum_small, quotient_faded}
use Rattle.sample_kernels.proofs.mixing.mixed_by.Goals as goal

pub overflow_add-sum : goal.overflow_add-sum
overflow_add-sum c =
    let is = short_sum c.weighted_short.result c.weighted_short-2.result c.args.from c.args.to c.args.at c.args.whole c.weighted_short.ensures c.weighted_short-2.ensures c.ranges.from c.ranges.to c.requires.within c.requires.short in
    rw is (sum_fits c.args.from c.args.to c.args.at c.args.whole c.ranges.from c.ranges.to c.requires.within c.requires.short)

pub quotient-requires-clause-small : goal.quotient-requires-clause-small
quotient-requires-clause-small c =
    let is = short_sum c.weighted_short.result c.weighted_short-2.result c.args.from c.args.to c.args.at c.args.whole c.weighted_short.ensures c.weighted_short-2.ensures c.ranges.from c.ranges.to c.requires.within c.requires.short in
    let fits = sum_fits c.args.from c.args.to c.args.at c.args.whole c.ranges.from c.ranges.to c.requires.within c.requires.short in
    rw (is, to_z-of_z w32 (sum_of c.args.from c.args.to c.args.at c.args.whole) fits) (sum_small c.args.from c.args.to c.args.at c.args.whole c.ranges.from c.ranges.to c.requires.within)

pub overflow_cast-result : goal.overflow_cast-result
overflow_cast-result c =
    let is = short_sum c.weighted_short.result c.weighted_short-2.result c.args.from c.args.to c.args.at c.args.whole c.weighted_short.ensures c.weighted_short-2.ensures c.ranges.from c.ranges.to c.requires.within c.requires.short in
    rw (quotient_faded c.quotient.result _ c.args.from c.args.to c.args.at c.args.whole c.quotient.ensures is c.ranges.from c.ranges.to c.requires.within c.requires.short)
    (faded_fits c.args.from c.args.to c.args.at c.args.whole c.ranges.from c.ranges.to c.requires.within)

pub returns : goal.returns
returns c =
    let is = short_sum c.weighted_short.result c.weighted_short-2.result c.args.from c.args.to c.args.at c.args.whole c.weighted_short.ensures c.weighted_short-2.ensures c.ranges.from c.ranges.to c.requires.within c.requires.short in
    rw (quotient_faded c.quotient.result _ c.args.from c.args.to c.args.at c.args.whole c.quotient.ensures is c.ranges.from c.ranges.to c.requires.within c.requires.short)
    (to_z-of_z w16 (faded c.args.from c.args.to c.args.at c.args.whole) (faded_fits c.args.from c.args.to c.args.at c.args.whole c.ranges.from c.ranges.to c.requires.within))
