use Rattle.std.proofs.Common.{◌≡◌, take}
use Rattle.clock_threads.specs.Logs.{counts_in}
use Rattle.clock_threads.proofs.counts.count_windows.Given as goal

abbrev pub invariant-loop-j : goal.invariant-loop-j
invariant-loop-j l = l.counts ≡ counts_in (take l.j l.windows)
