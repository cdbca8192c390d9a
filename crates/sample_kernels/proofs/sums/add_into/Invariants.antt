use Rattle.std.proofs.Common.{◌≡◌, ◌≤◌, ◌+ℤ◌, ◌-◌, length, take, drop, w16, FitsSigned}
use Rattle.std.specs.Simd.Lanes.{zip2, Each1}
use Rattle.sample_kernels.proofs.sums.add_into.Given as goal

abbrev pub invariant-loop-sum : goal.invariant-loop-sum
invariant-loop-sum l = record {
  long : length l.sum ≡ length l.fn.sum;
  within : l.done ≤ length l.sum;
  made : take l.done l.sum ≡ zip2 ◌+ℤ◌ (take l.done l.fn.sum) (take l.done l.part);
  rest : drop l.done l.sum ≡ drop l.done l.fn.sum;
  fit : Each1 (FitsSigned w16) (take l.done l.part);
}

abbrev pub decreases-loop-sum : goal.decreases-loop-sum
decreases-loop-sum l = length l.sum - l.done

abbrev pub invariant-loop-at : goal.invariant-loop-at
invariant-loop-at l = record {
  long : length l.sum ≡ length l.fn.sum;
  made : take l.at l.sum ≡ zip2 ◌+ℤ◌ (take l.at l.fn.sum) (take l.at l.part);
  rest : drop l.at l.sum ≡ drop l.at l.fn.sum;
  fit : Each1 (FitsSigned w16) (take l.at l.part);
}
