use Rattle.run_records.proofs.Rounding as law
use Rattle.run_records.proofs.laws.rounds_are_one.Goals as goal

pub returns : goal.returns
returns c = law.rounds_are_one
