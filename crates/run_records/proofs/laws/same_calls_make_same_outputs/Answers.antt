use Rattle.run_records.proofs.Calling.{outputs_same}
use Rattle.run_records.proofs.laws.same_calls_make_same_outputs.Goals as goal

pub returns : goal.returns
returns c = outputs_same
