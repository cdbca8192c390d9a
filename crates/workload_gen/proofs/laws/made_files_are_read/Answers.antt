use Rattle.workload_gen.proofs.Returned.{made_read}
use Rattle.workload_gen.proofs.laws.made_files_are_read.Goals as goal

pub returns : goal.returns
returns c = λ seed n i le. made_read c.own_files_are_read.ensures seed n i le
