use Rattle.std.proofs.Common.{map}
use Rattle.time_pred.specs.View.{view_shared}
use Rattle.plan_blames.specs.Needs.{some_case}
use Rattle.plan_blames.proofs.Needed.{alone, beside}
use Rattle.plan_blames.proofs.needs.lone_sure.Goals as goal

pub returns-then-other_sure : goal.returns-then-other_sure
returns-then-other_sure c = beside (some_case (map view_shared c.args.preds.now) c.args.children.now) c.args.first c.requires (c.other_sure.ensures.yes c.if-other_sure.true)

pub returns : goal.returns
returns c = alone (some_case (map view_shared c.args.preds.now) c.args.children.now) c.args.first c.requires (c.other_sure.ensures.no c.if-other_sure.false)
