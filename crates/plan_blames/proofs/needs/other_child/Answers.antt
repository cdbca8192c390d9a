use Rattle.std.proofs.Common.{get_or, arith, rules}
use Rattle.plan_blames.proofs.Needed.{child_done, child_more, child_there}
use Rattle.plan_blames.proofs.needs.other_child.Goals as goal

pub loop-child-init : goal.loop-child-init
loop-child-init c = λ other found. absurd cc

pub returns-then-child-first-clause-yes : goal.returns-then-child-first-clause-yes
returns-then-child-first-clause-yes c = λ yes. (get_or c.args.children.now c.loop-child.child-index 0, child_there c.args.children.now c.loop-child.child-index c.loop-child-test.true, search rules)

pub loop-child-preserved : goal.loop-child-preserved
loop-child-preserved c = child_more c.args.first c.args.children.now c.loop-child.child-index c.loop-child-test.true c.loop-child.invariant (search rules)

pub returns-clause-no : goal.returns-clause-no
returns-clause-no c = λ no. child_done c.args.first c.args.children.now c.loop-child.child-index (omega arith) c.loop-child.invariant
