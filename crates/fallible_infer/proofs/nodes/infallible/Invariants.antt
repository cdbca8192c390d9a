use Rattle.fallible_infer.proofs.Marking.{AreMarked}
use Rattle.fallible_infer.proofs.nodes.infallible.Given as goal

abbrev pub invariant-loop-node : goal.invariant-loop-node
invariant-loop-node l = AreMarked l.nodes l.marks.items l.node-index
