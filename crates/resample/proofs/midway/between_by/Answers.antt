use Rattle.std.proofs.Common.{w16, w64}
use Rattle.std.proofs.lemmas.Int.{to_z-of_z}
use Rattle.resample.specs.Resampled.{interpolated}
use Rattle.resample.proofs.Inverses.{added, added_fits, quotient_between, sum_of, sum_small}
use Rattle.resample.proofs.Quotients.{between_fits}
use Rattle.resample.proofs.midway.between_by.Goals as goal

pub overflow_add-sum : goal.overflow_add-sum
overflow_add-sum c =
    let is = added c.weighted.result c.weighted-2.result c.args.before c.args.behind c.args.part c.args.whole c.weighted.ensures c.weighted-2.ensures c.ranges.before c.ranges.behind c.requires.within c.requires.short in
    rw is (added_fits c.args.before c.args.behind c.args.part c.args.whole c.ranges.before c.ranges.behind c.requires.within c.requires.short)

pub quotient-requires-clause-small : goal.quotient-requires-clause-small
quotient-requires-clause-small c =
    let is = added c.weighted.result c.weighted-2.result c.args.before c.args.behind c.args.part c.args.whole c.weighted.ensures c.weighted-2.ensures c.ranges.before c.ranges.behind c.requires.within c.requires.short in
    let fits = added_fits c.args.before c.args.behind c.args.part c.args.whole c.ranges.before c.ranges.behind c.requires.within c.requires.short in
    rw (is, to_z-of_z w64 (sum_of c.args.before c.args.behind c.args.part c.args.whole) fits) (sum_small c.args.before c.args.behind c.args.part c.args.whole c.ranges.before c.ranges.behind c.requires.within)

pub overflow_cast-result : goal.overflow_cast-result
overflow_cast-result c =
    let is = added c.weighted.result c.weighted-2.result c.args.before c.args.behind c.args.part c.args.whole c.weighted.ensures c.weighted-2.ensures c.ranges.before c.ranges.behind c.requires.within c.requires.short in
    rw (quotient_between c.quotient.result _ c.args.before c.args.behind c.args.part c.args.whole c.quotient.ensures is c.ranges.before c.ranges.behind c.requires.within c.requires.short)
    (between_fits c.args.before c.args.behind c.args.part c.args.whole c.ranges.before c.ranges.behind c.requires.within)

pub returns : goal.returns
returns c =
    let is = added c.weighted.result c.weighted-2.result c.args.before c.args.behind c.args.part c.args.whole c.weighted.ensures c.weighted-2.ensures c.ranges.before c.ranges.behind c.requires.within c.requires.short in
    rw (quotient_between c.quotient.result _ c.args.before c.args.behind c.args.part c.args.whole c.quotient.ensures is c.ranges.before c.ranges.behind c.requires.within c.requires.short)
    (to_z-of_z w16 (interpolated c.args.before c.args.behind c.args.part c.args.whole) (between_fits c.args.before c.args.behind c.args.part c.args.whole c.ranges.before c.ranges.behind c.requires.within))
