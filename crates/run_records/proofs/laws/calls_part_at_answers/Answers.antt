use Rattle.run_records.proofs.Calling.{outputs_go}
use Rattle.run_records.proofs.laws.calls_part_at_answers.Goals as goal

pub returns : goal.returns
returns c = outputs_go
