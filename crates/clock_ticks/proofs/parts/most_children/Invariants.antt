use Rattle.std.proofs.Common.{◌≡◌, ◌<◌, ◌≤◌, ℕ, Some, length, slice_get}
use Rattle.plan_core.specs.declared.node.Node.{Node}
use Rattle.clock_ticks.proofs.parts.most_children.Given as goal

abbrev pub invariant-loop-node : goal.invariant-loop-node
invariant-loop-node l = (k : ℕ) (node : Node) → k < l.node-index → slice_get l.plan.nodes k ≡ Some node → length node.children ≤ l.most
