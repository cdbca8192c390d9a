use Rattle.std.proofs.Common.{rules, arith}
use Rattle.clock_infer.specs.Walks.{up_at}
use Rattle.clock_infer.proofs.Climbing.{rounding_more}
use Rattle.clock_infer.proofs.nested.mark_round.Goals as goal

pub loop-marks-preserved : goal.loop-marks-preserved
loop-marks-preserved c = record {
  there = search rules;
  rounding = rounding_more (up_at c.args.above.now) _ c.loop-marks.marks c.args.start c.loop-marks.at c.in-Some.j c.loop-marks.invariant.rounding (omega arith) c.in-Some.is;
}
