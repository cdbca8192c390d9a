use Rattle.run_records.proofs.Pace as law
use Rattle.run_records.proofs.laws.paced_windows_refuse_nothing.Goals as goal

pub returns : goal.returns
returns c = law.paced_windows_refuse_nothing
