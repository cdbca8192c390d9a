use Rattle.std.proofs.Common.{arith}
use Rattle.clock_instants.proofs.Steadying.{marks_same, marks_stay}
use Rattle.clock_instants.proofs.resting.steady_left.Goals as goal

pub returns-then-seconds_left-most : goal.returns-then-seconds_left-most
returns-then-seconds_left-most c = record {
  each = λ rate i kind choice eligible start n j children is stands low.
      marks_same eligible start n j c.args.time.rate children (omega (arith, c.args.time.within))
      (c.seconds_left.ensures start n j stands (omega (arith, low, c.if-seconds_left-most.true)));
}

pub returns : goal.returns
returns c = record {
  each = λ rate i kind choice eligible start n j children is stands low.
      marks_stay eligible start c.args.time.second.second n j c.args.time.rate c.steady_seconds.result children (omega (arith, c.args.time.within)) stands.second
      (c.seconds_left-2.ensures start n j stands low) (λ k less. c.steady_seconds.ensures.stays rate i kind choice eligible k children is less);
}
