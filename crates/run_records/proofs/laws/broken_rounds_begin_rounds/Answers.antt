use Rattle.run_records.proofs.Beginning.{rounds_begin}
use Rattle.run_records.proofs.laws.broken_rounds_begin_rounds.Goals as goal

pub returns : goal.returns
returns c = rounds_begin
