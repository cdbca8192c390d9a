use Rattle.std.proofs.Common.{nat_eq, arith}
use Rattle.fallible_infer.proofs.Marking.{any_done}
use Rattle.plan_blames.proofs.needs.contains.Goals as goal

pub returns : goal.returns
returns c = any_done (λ other. nat_eq other c.args.child) c.args.children.now c.loop-other.other-index (omega arith) c.loop-other.invariant
