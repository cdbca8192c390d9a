use Rattle.trace_records.proofs.Tracing.{one_record}
use Rattle.trace_replay.proofs.laws.accepted_traces_tell_one_record.Goals as goal

pub returns : goal.returns
returns c = one_record
