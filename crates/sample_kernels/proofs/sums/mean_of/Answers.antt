use Rattle.std.proofs.Common.{pos, w16}
use Rattle.std.specs.Prelude.{int_div}
use Rattle.std.proofs.lemmas.Int.{to_z-of_z}
use Rattle.sample_kernels.proofs.Means.{mean_fits, mean_computed}
use Rattle.sample_kernels.proofs.sums.mean_of.Goals as goal

pub overflow_cast-result : goal.overflow_cast-result
overflow_cast-result c = rw (mean_computed c.args.sum c.from.result c.args.parts c.from.ensures c.ranges.sum c.ranges.parts c.requires.some c.requires.sum) (mean_fits c.args.sum c.args.parts c.requires.some c.requires.sum)

pub returns : goal.returns
returns c =
    rw (mean_computed c.args.sum c.from.result c.args.parts c.from.ensures c.ranges.sum c.ranges.parts c.requires.some c.requires.sum)
    (to_z-of_z w16 (int_div c.args.sum (pos c.args.parts)) (mean_fits c.args.sum c.args.parts c.requires.some c.requires.sum))
