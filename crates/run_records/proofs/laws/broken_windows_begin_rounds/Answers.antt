use Rattle.run_records.proofs.Beginning.{windows_begin}
use Rattle.run_records.proofs.laws.broken_windows_begin_rounds.Goals as goal

pub returns : goal.returns
returns c = windows_begin
