use Rattle.std.proofs.Common.{◌≡◌, map, take}
use Rattle.clock_threads.specs.Logs.{counts_in}
use Rattle.clock_threads.proofs.counts.count_logs.Given as goal

abbrev pub invariant-loop-b : goal.invariant-loop-b
invariant-loop-b l = l.counts.items ≡ map counts_in (take l.b l.logs)
