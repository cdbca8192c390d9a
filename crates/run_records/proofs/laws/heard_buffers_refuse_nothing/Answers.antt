use Rattle.run_records.proofs.Fitting as law
use Rattle.run_records.proofs.laws.heard_buffers_refuse_nothing.Goals as goal

pub returns : goal.returns
returns c = law.heard_buffers_refuse_nothing
