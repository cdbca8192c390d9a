use Rattle.plan_blames.proofs.Needed.{child_only, switch_only}
use Rattle.plan_blames.proofs.needs.only_needed.Goals as goal

pub returns-in-Switch : goal.returns-in-Switch
returns-in-Switch c = switch_only c.args.op.now _ _ _ c.args.children.now c.only_sure.result c.in-Switch.is c.as_slice.ensures c.only_sure.ensures

pub returns-in_default : goal.returns-in_default
returns-in_default c = child_only c.args.op.now c.args.children.now c.only_child.result c.in_default.not-Switch c.in_default.not-Sequence c.only_child.ensures
