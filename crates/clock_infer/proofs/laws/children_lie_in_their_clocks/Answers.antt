use Rattle.clock_infer.proofs.MapLaws as law
use Rattle.clock_infer.proofs.laws.children_lie_in_their_clocks.Goals as goal

pub returns-clause-shared : goal.returns-clause-shared
returns-clause-shared c = law.shared

pub returns-clause-crossfaded : goal.returns-clause-crossfaded
returns-clause-crossfaded c = law.crossfaded
