use Rattle.std.proofs.Common.{◌≡◌, map, take}
use Rattle.trace_replay.specs.Replays.{counts_in}
use Rattle.trace_replay.proofs.logs.count_logs.Given as goal

abbrev pub invariant-loop-log : goal.invariant-loop-log
invariant-loop-log l = l.counts.items ≡ map counts_in (take l.log-index l.logs)
