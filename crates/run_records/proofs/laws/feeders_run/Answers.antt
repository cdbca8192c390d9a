use Rattle.run_records.proofs.Alone.{feeder_runs}
use Rattle.run_records.proofs.laws.feeders_run.Goals as goal

pub returns : goal.returns
returns c = feeder_runs
