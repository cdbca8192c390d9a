use Rattle.trace_records.proofs.Tracing.{onward_accepted}
use Rattle.trace_replay.proofs.laws.onward_traces_are_accepted.Goals as goal

pub returns : goal.returns
returns c = onward_accepted
