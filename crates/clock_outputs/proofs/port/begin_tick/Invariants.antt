use Rattle.std.proofs.Common.{◌≡◌, ◌++◌, map, take, drop}
use Rattle.clock_outputs.specs.Ports.{emptied}
use Rattle.clock_outputs.proofs.port.begin_tick.Given as goal

abbrev pub invariant-loop-k : goal.invariant-loop-k
invariant-loop-k l = l.ports.items ≡ map emptied (take l.k l.initial.ports.items) ++ drop l.k l.initial.ports.items
