use Rattle.std.proofs.Common.{◌≡◌, ◌≤◌, List, length}
use Rattle.buffer_ends.specs.Local.{LocalBuffer, closed_first}
use Rattle.buffer_ends.proofs.local.reopen_first.Given as goal

abbrev pub invariant-loop-left : goal.invariant-loop-left
invariant-loop-left l = (l.left ≤ l.many) × ((bs : List LocalBuffer) → l.many ≤ length bs → l.initial.lists.items ≡ closed_first l.many bs → l.lists.items ≡ closed_first l.left bs)

abbrev pub decreases-loop-left : goal.decreases-loop-left
decreases-loop-left l = l.left
