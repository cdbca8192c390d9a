use Rattle.std.proofs.Common.{◌≡◌, take}
use Rattle.std.specs.Prelude.{string_bytes}
use Rattle.fallible_infer.specs.Infallible.{mark_at}
use Rattle.stations.specs.Reports.{checked_lines}
use Rattle.station_check.proofs.report.check_report.Given as goal

-- the lines of the sinks so far
abbrev pub invariant-loop-sink : goal.invariant-loop-sink
invariant-loop-sink l = string_bytes l.text ≡ checked_lines l.clocks (mark_at l.marks.items) (take l.sink-index l.plan.sinks)
