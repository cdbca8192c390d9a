use Rattle.run_records.proofs.OneThread as law
use Rattle.run_records.proofs.laws.rounds_have_a_record.Goals as goal

pub returns : goal.returns
returns c = law.rounds_have_a_record
