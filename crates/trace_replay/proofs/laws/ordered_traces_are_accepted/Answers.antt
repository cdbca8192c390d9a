use Rattle.trace_records.proofs.Tracing.{ordered_accepted}
use Rattle.trace_replay.proofs.laws.ordered_traces_are_accepted.Goals as goal

pub returns : goal.returns
returns c = ordered_accepted
