use Rattle.trace_records.proofs.Tracing.{logs_accepted}
use Rattle.trace_replay.proofs.laws.logs_of_onward_runs_are_accepted.Goals as goal

pub returns : goal.returns
returns c = logs_accepted
