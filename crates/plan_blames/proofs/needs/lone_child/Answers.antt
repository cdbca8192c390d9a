use Rattle.plan_blames.specs.Needs.{some_child}
use Rattle.plan_blames.proofs.Needed.{alone, beside}
use Rattle.plan_blames.proofs.needs.lone_child.Goals as goal

pub returns-then-other_child : goal.returns-then-other_child
returns-then-other_child c = beside (some_child c.args.children.now) c.args.first c.requires (c.other_child.ensures.yes c.if-other_child.true)

pub returns : goal.returns
returns c = alone (some_child c.args.children.now) c.args.first c.requires (c.other_child.ensures.no c.if-other_child.false)
