use Rattle.std.proofs.Common.{◌≡◌, ◌+◌, length, drop}
use Rattle.trace_turns.specs.Turns.{outputs_in}
use Rattle.trace_turns.proofs.station.count_outputs.Given as goal

abbrev pub invariant-loop-sink : goal.invariant-loop-sink
invariant-loop-sink l = record { counted : length l.outs.items + outputs_in l.clocks l.clock (drop l.sink-index l.sinks) ≡ outputs_in l.clocks l.clock l.sinks }
