use Rattle.std.proofs.Common.{◌≡◌, map, take}
use Rattle.buffer_ends.specs.Local.{all_answers, counts_of}
use Rattle.rounds_run.proofs.run.count_all.Given as goal

abbrev pub invariant-loop-buffer : goal.invariant-loop-buffer
invariant-loop-buffer l = l.counts.items ≡ map (λ list. counts_of (all_answers list)) (take l.buffer l.taps)
