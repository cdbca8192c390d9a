use Rattle.std.proofs.Common.{◌≡◌, ◌++◌, ◌≤◌, drop}
use Rattle.general_types.specs.Texts.{open_counts}
use Rattle.general_types.proofs.generalising.push_open_counts.Given as goal

abbrev pub invariant-loop-parameter : goal.invariant-loop-parameter
invariant-loop-parameter l = record {
  counted : l.counts.items ++ open_counts l.count (drop l.parameter-index l.parameters) ≡ open_counts 0 l.parameters;
  few : l.count ≤ l.parameter-index;
}
