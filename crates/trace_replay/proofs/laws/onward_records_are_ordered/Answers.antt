use Rattle.trace_records.proofs.Leading.{ordered_onward}
use Rattle.trace_replay.proofs.laws.onward_records_are_ordered.Goals as goal

pub returns : goal.returns
returns c = ordered_onward
