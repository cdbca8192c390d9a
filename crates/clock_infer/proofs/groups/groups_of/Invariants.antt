use Rattle.clock_infer.specs.Groups.{IsGroupedBelow}
use Rattle.clock_infer.proofs.groups.groups_of.Given as goal

abbrev pub invariant-loop-i : goal.invariant-loop-i
invariant-loop-i l = IsGroupedBelow l.nodes l.groups.items l.i
