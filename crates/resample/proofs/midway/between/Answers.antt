use Rattle.std.proofs.Common.{w16, arith}
use Rattle.std.proofs.lemmas.Int.{to_z-of_z}
use Rattle.resample.specs.Resampled.{interpolated}
use Rattle.resample.proofs.Quotients.{between_fits, computed}
use Rattle.resample.proofs.midway.between.Goals as goal

pub overflow_cast-result : goal.overflow_cast-result
overflow_cast-result c =
    let is = computed c.weighted.result c.weighted-2.result c.from-parts.result c.args.before c.args.behind c.args.part c.args.whole c.weighted.ensures c.weighted-2.ensures c.from-parts.ensures c.ranges.before c.ranges.behind c.requires (omega arith) in
    rw is (between_fits c.args.before c.args.behind c.args.part c.args.whole c.ranges.before c.ranges.behind c.requires)

pub returns : goal.returns
returns c =
    let is = computed c.weighted.result c.weighted-2.result c.from-parts.result c.args.before c.args.behind c.args.part c.args.whole c.weighted.ensures c.weighted-2.ensures c.from-parts.ensures c.ranges.before c.ranges.behind c.requires (omega arith) in
    rw is (to_z-of_z w16 (interpolated c.args.before c.args.behind c.args.part c.args.whole) (between_fits c.args.before c.args.behind c.args.part c.args.whole c.ranges.before c.ranges.behind c.requires))
