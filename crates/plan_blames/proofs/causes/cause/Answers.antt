use Rattle.std.proofs.Common.{arith}
use Rattle.plan_blames.specs.Needs.{here, below}
use Rattle.plan_blames.proofs.causes.cause.Goals as goal

pub loop-child-init : goal.loop-child-init
loop-child-init c = (c.requires.there, here)

pub loop-child-preserved : goal.loop-child-preserved
loop-child-preserved c = (omega (arith, c.in-Some.ensures.below, c.loop-child.invariant.0), below c.loop-child.at c.in-Some.child c.loop-child.invariant.1 c.in-Some.ensures.needed)
