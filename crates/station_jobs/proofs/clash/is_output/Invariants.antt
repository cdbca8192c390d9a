use Rattle.std.proofs.Common.{◌≡◌, drop}
use Rattle.std.specs.List.{list_any}
use Rattle.station_jobs.specs.Verdicts.{has_name}
use Rattle.station_jobs.proofs.clash.is_output.Given as goal

-- the sinks that are left tell whether one of all has the name
abbrev pub invariant-loop-sink : goal.invariant-loop-sink
invariant-loop-sink l = list_any (has_name l.name) (drop l.sink-index l.plan.sinks) ≡ list_any (has_name l.name) l.plan.sinks
