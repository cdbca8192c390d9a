use Rattle.std.proofs.Common.{◌<◌, length}
use Rattle.plan_blames.specs.Needs.{Leads}
use Rattle.plan_blames.proofs.causes.cause.Given as goal

abbrev pub invariant-loop-child : goal.invariant-loop-child
invariant-loop-child l = (l.at < length l.nodes) × Leads l.nodes l.from l.at

abbrev pub decreases-loop-child : goal.decreases-loop-child
decreases-loop-child l = l.at
