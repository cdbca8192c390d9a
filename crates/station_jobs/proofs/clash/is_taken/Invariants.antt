use Rattle.std.proofs.Common.{◌≡◌, drop}
use Rattle.std.specs.List.{list_any}
use Rattle.station_jobs.specs.Verdicts.{writes_to}
use Rattle.station_jobs.proofs.clash.is_taken.Given as goal

-- the sinks that are left tell whether one of all has the name
abbrev pub invariant-loop-sink : goal.invariant-loop-sink
invariant-loop-sink l = list_any (writes_to l.name l.cues) (drop l.sink-index l.plan.sinks) ≡ list_any (writes_to l.name l.cues) l.plan.sinks
