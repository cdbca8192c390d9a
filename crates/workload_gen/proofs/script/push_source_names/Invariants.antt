use Rattle.std.proofs.Common.{◌≡◌, ◌++◌, string_bytes}
use Rattle.workload_gen.specs.Files.{source_names}
use Rattle.workload_gen.proofs.script.push_source_names.Given as goal

abbrev pub invariant-loop-number : goal.invariant-loop-number
invariant-loop-number l = string_bytes l.text ≡ string_bytes l.fn.text ++ source_names l.number
