use Rattle.std.proofs.Common.{◌≡◌, ◌≤◌, drop, length}
use Rattle.fallible_infer.specs.Infallible.{mark_at}
use Rattle.plan_blames.specs.Blames.{reds_from}
use Rattle.plan_blames.proofs.red_nodes.reds.Given as goal

abbrev pub invariant-loop-k : goal.invariant-loop-k
invariant-loop-k l = (l.k ≤ length l.nodes) × (length l.reds.items ≡ length l.nodes) × (drop l.k l.reds.items ≡ reds_from (mark_at l.marks) l.refused l.k (drop l.k l.nodes))

abbrev pub decreases-loop-k : goal.decreases-loop-k
decreases-loop-k l = l.k
