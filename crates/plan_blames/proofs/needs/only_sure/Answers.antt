use Rattle.std.proofs.Common.{map, refl}
use Rattle.time_pred.specs.View.{view_shared}
use Rattle.plan_blames.specs.Needs.{some_case}
use Rattle.plan_blames.proofs.Needed.{nothing}
use Rattle.plan_blames.proofs.needs.only_sure.Goals as goal

pub returns-in-None : goal.returns-in-None
returns-in-None c = nothing (some_case (map view_shared c.args.preds.now) c.args.children.now) (c.in-None.ensures.none refl)
