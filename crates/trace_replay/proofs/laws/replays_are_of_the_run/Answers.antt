use Rattle.trace_records.proofs.Retelling.{run_told}
use Rattle.trace_replay.proofs.laws.replays_are_of_the_run.Goals as goal

pub returns : goal.returns
returns c = run_told
