use Rattle.clock_infer.proofs.MapLaws as law
use Rattle.clock_infer.proofs.laws.clocks_of_maps_are_there.Goals as goal

pub returns-clause-named : goal.returns-clause-named
returns-clause-named c = law.named

pub returns-clause-crossfades : goal.returns-clause-crossfades
returns-clause-crossfades c = law.crossfades
