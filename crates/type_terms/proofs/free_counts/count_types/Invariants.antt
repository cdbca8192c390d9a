use Rattle.std.proofs.Common.{◌≡◌, ◌+◌, ◌≤◌, drop}
use Rattle.type_terms.specs.Counting.{free_types}
use Rattle.type_terms.proofs.free_counts.count_types.Given as goal

abbrev pub invariant-loop-variable : goal.invariant-loop-variable
invariant-loop-variable l = record {
  counted : l.free + free_types (drop l.variable-index l.types) ≡ free_types l.types;
  few : l.free ≤ l.variable-index;
}
