use Rattle.run_records.proofs.Roomy as law
use Rattle.run_records.proofs.laws.roomy_buffers_refuse_nothing.Goals as goal

pub returns : goal.returns
returns c = law.roomy_buffers_refuse_nothing
