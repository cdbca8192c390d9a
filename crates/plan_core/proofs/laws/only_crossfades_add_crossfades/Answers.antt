use Rattle.plan_core.proofs.Grown.{no_more_crossfades}
use Rattle.plan_core.proofs.laws.only_crossfades_add_crossfades.Goals as goal

pub returns : goal.returns
returns c = no_more_crossfades
