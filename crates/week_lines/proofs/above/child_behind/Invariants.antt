use Rattle.std.proofs.Common.{◌≡◌, drop}
use Rattle.week_lines.specs.Instead.{child_behind}
use Rattle.week_lines.proofs.Players.{behind}
use Rattle.week_lines.proofs.above.child_behind.Given as goal

abbrev pub invariant-loop-child : goal.invariant-loop-child
invariant-loop-child l = child_behind l.number l.children ≡ behind l.number l.passed (drop l.child-index l.children)
