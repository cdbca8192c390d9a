use Rattle.std.proofs.Common.{◌≡◌, drop}
use Rattle.station_jobs.specs.Verdicts.{first_cue_clash}
use Rattle.station_jobs.proofs.clash.find_cue_clash.Given as goal

-- the sinks that are left tell the first such name of all
abbrev pub invariant-loop-sink : goal.invariant-loop-sink
invariant-loop-sink l = first_cue_clash l.plan.sinks (drop l.sink-index l.plan.sinks) ≡ first_cue_clash l.plan.sinks l.plan.sinks
