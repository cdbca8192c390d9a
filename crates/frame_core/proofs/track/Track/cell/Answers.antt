use Rattle.std.proofs.Common.{arith}
use Rattle.frame_core.proofs.Sides.{below_all}
use Rattle.frame_core.proofs.track.Track.cell.Goals as goal

pub overflow_mul-at : goal.overflow_mul-at
overflow_mul-at c = omega (arith, below_all c.args.self.now c.args.at c.requires, c.count-count.ensures.count, c.count-count.ensures.few)

pub overflow_mul-at-in-Stereo-Mono : goal.overflow_mul-at-in-Stereo-Mono
overflow_mul-at-in-Stereo-Mono c = omega (arith, below_all c.args.self.now c.args.at c.requires, c.count-count.ensures.count, c.count-count.ensures.few)

pub overflow_add-at : goal.overflow_add-at
overflow_add-at c = omega (arith, below_all c.args.self.now c.args.at c.requires, c.count-count.ensures.count, c.count-count.ensures.few)

pub overflow_mul-at-in-Stereo-Stereo : goal.overflow_mul-at-in-Stereo-Stereo
overflow_mul-at-in-Stereo-Stereo c = omega (arith, below_all c.args.self.now c.args.at c.requires, c.count-count.ensures.count, c.count-count.ensures.few)

pub overflow_mul-at-in-Stereo-Stereo-2 : goal.overflow_mul-at-in-Stereo-Stereo-2
overflow_mul-at-in-Stereo-Stereo-2 c = omega (arith, below_all c.args.self.now c.args.at c.requires, c.count-count.ensures.count, c.count-count.ensures.few)

pub overflow_add-at-in-Stereo-Stereo : goal.overflow_add-at-in-Stereo-Stereo
overflow_add-at-in-Stereo-Stereo c = omega (arith, below_all c.args.self.now c.args.at c.requires, c.count-count.ensures.count, c.count-count.ensures.few)
