use Rattle.std.proofs.Common.{◌≡◌, drop}
use Rattle.where_lines.specs.Causes.{output_named}
use Rattle.where_lines.proofs.causes.output_named.Given as goal

abbrev pub invariant-loop-sink : goal.invariant-loop-sink
invariant-loop-sink l = output_named l.name (drop l.sink-index l.sinks) ≡ output_named l.name l.sinks
