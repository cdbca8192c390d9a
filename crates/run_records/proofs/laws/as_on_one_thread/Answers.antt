use Rattle.run_records.proofs.Alone as law
use Rattle.run_records.proofs.laws.as_on_one_thread.Goals as goal

pub returns : goal.returns
returns c = law.as_on_one_thread
