use Rattle.std.proofs.Common.{arith}
use Rattle.fallible_infer.specs.Infallible.{mark_at}
use Rattle.fallible_infer.proofs.Marking.{any_done}
use Rattle.fallible_infer.proofs.nodes.some_child.Goals as goal

pub returns : goal.returns
returns c = any_done (mark_at c.args.marks.now) c.args.children.now c.loop-child.child-index (omega arith) c.loop-child.invariant
