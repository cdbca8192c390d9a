use Rattle.workload_gen.specs.Files.{outputs}
use Rattle.workload_gen.proofs.script.push_outputs.Goals as goal

pub returns : goal.returns
unfolding outputs
returns c = c.in_ok-push_str.ensures.bytes
