use Rattle.std.proofs.Common.{◌≡◌, ◌++◌, length, map, take, drop}
use Rattle.clock_outputs.specs.Ports.{after_slots}
use Rattle.clock_ticks.specs.Hearings.{segment_of}
use Rattle.clock_ticks.proofs.heard.hear_all.Given as goal

abbrev pub invariant-loop-k : goal.invariant-loop-k
invariant-loop-k l = record {
  sizes : length l.ports.items ≡ length l.initial.ports.items;
  are : l.ports.items ≡ map (λ port. after_slots port (segment_of l.clocks l.many port.node)) (take l.k l.initial.ports.items) ++ drop l.k l.initial.ports.items;
}
