use Rattle.std.proofs.Common.{◌<◌, length}
use Rattle.std.specs.List.{count_by}
use Rattle.clock_infer.specs.Walks.{up_at, IsRounding, is_open}
use Rattle.clock_infer.proofs.nested.mark_round.Given as goal

abbrev pub invariant-loop-marks : goal.invariant-loop-marks
invariant-loop-marks l = record {
  there : l.at < length l.above;
  rounding : IsRounding (up_at l.above) l.initial.marks l.marks l.start l.at;
}

abbrev pub decreases-loop-marks : goal.decreases-loop-marks
decreases-loop-marks l = count_by is_open l.marks
