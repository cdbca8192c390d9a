use Rattle.std.proofs.Common.{◌≡◌, string_bytes}
use Rattle.workload_gen.specs.Files.{list_text}
use Rattle.workload_gen.proofs.script.list.Given as goal

abbrev pub invariant-loop-number : goal.invariant-loop-number
invariant-loop-number l = string_bytes l.text ≡ list_text l.number
