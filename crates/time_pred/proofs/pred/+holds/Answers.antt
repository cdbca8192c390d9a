use Rattle.std.proofs.Common.{rules}
use Rattle.time_pred.proofs.Rows.{all_holds, any_holds}
use Rattle.time_pred.proofs.pred.+holds.Goals as goal

pub Pred::holds-returns-in-All : goal.Pred::holds-returns-in-All
Pred::holds-returns-in-All t c = rw (c.in-All.is, all_holds c.in-All.parts c.args.at.second) (search rules)

pub Pred::holds-returns-in-Any : goal.Pred::holds-returns-in-Any
Pred::holds-returns-in-Any t c = rw (c.in-Any.is, any_holds c.in-Any.parts c.args.at.second) (search rules)
