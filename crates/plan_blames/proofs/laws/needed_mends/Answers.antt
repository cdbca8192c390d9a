use Rattle.plan_blames.proofs.Needed.{mends}
use Rattle.plan_blames.proofs.laws.needed_mends.Goals as goal

pub returns : goal.returns
returns c = mends
