use Rattle.run_records.proofs.Calling.{next_call}
use Rattle.run_records.proofs.laws.next_calls_are_alike.Goals as goal

pub returns : goal.returns
returns c = next_call
