use Rattle.run_records.proofs.Fitting as law
use Rattle.run_records.proofs.laws.broken_windows_refuse_nothing.Goals as goal

pub returns : goal.returns
returns c = law.broken_windows_refuse_nothing
