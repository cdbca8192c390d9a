use Rattle.clock_infer.proofs.MapLaws as law
use Rattle.clock_infer.proofs.laws.sinks_lie_in_running_clocks.Goals as goal

pub returns : goal.returns
returns c = law.sinks
