use Rattle.workload_gen.specs.Files.{settings}
use Rattle.workload_gen.proofs.script.push_settings.Goals as goal

pub returns : goal.returns
unfolding settings
returns c = c.in_ok-push_str.ensures.bytes
