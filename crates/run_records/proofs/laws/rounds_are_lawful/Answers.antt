use Rattle.run_records.proofs.OneWindow as law
use Rattle.run_records.proofs.laws.rounds_are_lawful.Goals as goal

pub returns : goal.returns
returns c = law.rounds_are_lawful
