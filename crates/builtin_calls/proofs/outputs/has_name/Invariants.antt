use Rattle.std.proofs.Common.{◌≡◌, take, false}
use Rattle.std.specs.List.{list_any}
use Rattle.builtin_calls.specs.Sinks.{is_named}
use Rattle.builtin_calls.proofs.outputs.has_name.Given as goal

abbrev pub invariant-loop-sink : goal.invariant-loop-sink
invariant-loop-sink l = list_any (is_named l.name) (take l.sink-index l.sinks) ≡ false
