use Rattle.std.proofs.Common.{◌≡◌, ◌≤◌, drop}
use Rattle.station_facts.specs.Hours.{cases_to}
use Rattle.station_facts.proofs.hours.all_cases.Given as goal

abbrev pub invariant-loop-node : goal.invariant-loop-node
invariant-loop-node l = record {
  most : l.all ≤ 100001;
  same : cases_to l.all (drop l.node-index l.nodes) ≡ cases_to 0 l.nodes;
}
