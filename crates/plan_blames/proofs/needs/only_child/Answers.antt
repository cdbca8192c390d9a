use Rattle.plan_blames.specs.Needs.{some_child}
use Rattle.plan_blames.proofs.Needed.{first_there, none_there, nothing}
use Rattle.plan_blames.proofs.needs.only_child.Goals as goal

pub lone_child-requires : goal.lone_child-requires
lone_child-requires c = first_there c.args.children.now c.in-Some.first c.in-Some.ensures

pub returns-in-None : goal.returns-in-None
returns-in-None c = nothing (some_child c.args.children.now) (none_there c.args.children.now c.in-None.ensures)
