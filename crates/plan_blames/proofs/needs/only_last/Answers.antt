use Rattle.plan_blames.proofs.Needed.{last_alone}
use Rattle.plan_blames.proofs.needs.only_last.Goals as goal

pub returns : goal.returns
returns c = last_alone c.args.children.now c.last_of.result c.last_of.ensures
