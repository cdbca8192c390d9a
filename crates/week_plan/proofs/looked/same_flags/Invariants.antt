use Rattle.std.proofs.Common.{◌≡◌, take, length}
use Rattle.week_plan.proofs.looked.same_flags.Given as goal

abbrev pub invariant-loop-k : goal.invariant-loop-k
invariant-loop-k l = record {
  size : length l.flags ≡ length l.others;
  same : take l.k l.flags ≡ take l.k l.others;
}
