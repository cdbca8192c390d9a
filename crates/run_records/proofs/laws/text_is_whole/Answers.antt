use Rattle.run_records.proofs.Replaying as law
use Rattle.run_records.proofs.laws.text_is_whole.Goals as goal

pub returns : goal.returns
returns c = law.text_is_whole
