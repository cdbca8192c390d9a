use Rattle.std.proofs.Common.{arith, refl}
use Rattle.general_types.proofs.Counting.{counts_next}
use Rattle.general_types.proofs.generalising.push_open_counts.Goals as goal

pub loop-parameter-preserved : goal.loop-parameter-preserved
loop-parameter-preserved c = record {
  counted = counts_next c.args.parameters.now c.loop-parameter.parameter-index c.loop-parameter.count _ _ _ _ _ _ c.loop-parameter-test.true refl c.one_if_open-one.ensures.open c.in_ok-push.ensures.items c.loop-parameter.invariant.counted;
  few = omega (arith, c.loop-parameter.invariant.few, c.one_if_open-one.ensures.few);
}
