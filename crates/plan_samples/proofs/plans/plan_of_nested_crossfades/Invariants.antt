use Rattle.std.proofs.Common.{◌<◌, length}
use Rattle.plan_samples.specs.Stereos.{IsStereo}
use Rattle.plan_samples.proofs.plans.plan_of_nested_crossfades.Given as goal

abbrev pub invariant-loop : goal.invariant-loop
invariant-loop l = record {
  stereo : IsStereo l.draft;
  blank : l.blank < length l.draft.nodes;
  written : 1 < length l.draft.nodes;
}
