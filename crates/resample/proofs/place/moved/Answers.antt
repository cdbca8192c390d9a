use Rattle.std.proofs.Common.{arith}
use Rattle.resample.proofs.Moves.{carry, no_carry}
use Rattle.resample.proofs.place.moved.Goals as goal

pub returns-then-part-to : goal.returns-then-part-to
returns-then-part-to c = record {
  whole = no_carry c.args.place.block c.args.step.block c.args.to c.args.place.part c.args.step.part;
  part = omega arith;
}

pub returns : goal.returns
returns c = record {
  whole = carry c.args.place.block c.args.step.block c.args.to c.args.place.part c.args.step.part c.if-part-to.false;
  part = omega arith;
}
