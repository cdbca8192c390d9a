use Rattle.plan_blames.proofs.Reddening.{red_below}
use Rattle.plan_blames.proofs.laws.needed_is_red.Goals as goal

pub returns : goal.returns
returns c = red_below
