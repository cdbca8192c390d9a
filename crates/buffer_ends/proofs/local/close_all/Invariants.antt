use Rattle.std.proofs.Common.{◌≡◌}
use Rattle.buffer_ends.specs.Local.{closed_first}
use Rattle.buffer_ends.proofs.local.close_all.Given as goal

abbrev pub invariant-loop-i : goal.invariant-loop-i
invariant-loop-i l = l.lists.items ≡ closed_first l.i l.initial.lists.items
