use Rattle.std.proofs.Common.{[]}
use Rattle.station_facts.specs.Files.{single_in}
use Rattle.station_facts.proofs.Gathered.{Gathers}
use Rattle.station_facts.proofs.leaves.singles_of.Given as goal

abbrev pub invariant-loop-node : goal.invariant-loop-node
invariant-loop-node l = Gathers (λ node. single_in node.op) l.node-items l.node-index [] l.names.keys
