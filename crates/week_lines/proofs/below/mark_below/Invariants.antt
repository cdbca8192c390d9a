use Rattle.std.proofs.Common.{◌-◌, length}
use Rattle.week_lines.proofs.Marking.{AreMarked}
use Rattle.week_lines.proofs.below.mark_below.Given as goal

abbrev pub invariant-loop-k : goal.invariant-loop-k
invariant-loop-k l = AreMarked l.nodes l.below (length l.nodes - l.k)
