use Rattle.std.proofs.Common.{◌≡◌, ◌≤◌, length}
use Rattle.plan_samples.specs.Stereos.{IsStereo}
use Rattle.plan_samples.proofs.plans.plan_over.Given as goal

abbrev pub invariant-loop-number : goal.invariant-loop-number
invariant-loop-number l = record {
  stereo : IsStereo l.draft;
  size : length l.draft.nodes ≡ l.number;
  some : 1 ≤ length l.draft.nodes;
}
