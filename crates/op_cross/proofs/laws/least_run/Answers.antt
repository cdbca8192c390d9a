use Rattle.op_cross.proofs.LeastRuns.{run_of-is, item_of-is}
use Rattle.op_cross.proofs.laws.least_run.Goals as goal

pub returns : goal.returns
returns c = record {
  run = λ overlap slots p filled long settled least. run_of-is overlap slots p filled long settled least;
  item = λ overlap slots p filled long settled least. item_of-is overlap slots p filled long settled least;
}
