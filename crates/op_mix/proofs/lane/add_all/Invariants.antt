use Rattle.std.proofs.Common.{◌≡◌, length, take}
use Rattle.op_mix.specs.Stretches.{offers_in, samples_of}
use Rattle.op_mix.proofs.Summing.{Added}
use Rattle.op_mix.proofs.lane.add_all.Given as goal

abbrev pub invariant-loop-child : goal.invariant-loop-child
invariant-loop-child l = record {
  long : length l.sums ≡ length l.fn.sums;
  added : Added (offers_in l.parts) (λ child. samples_of l.lanes child (length l.fn.sums)) (length l.fn.sums) (take l.child-index l.children) l.count l.sums;
}
