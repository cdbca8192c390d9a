use Rattle.std.proofs.Common.{◌≡◌, ◌+◌, ◌≤◌, drop}
use Rattle.type_terms.specs.Counting.{free_kinds}
use Rattle.type_terms.proofs.free_counts.count_kinds.Given as goal

abbrev pub invariant-loop-kind : goal.invariant-loop-kind
invariant-loop-kind l = record {
  counted : l.free + free_kinds (drop l.kind-index l.kinds) ≡ free_kinds l.kinds;
  few : l.free ≤ l.kind-index;
}
