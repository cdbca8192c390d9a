use Rattle.std.proofs.Common.{◌≡◌, ◌++◌, drop}
use Rattle.type_instances.specs.NewVariables.{open_terms}
use Rattle.type_instances.proofs.instances.push_opened.Given as goal

abbrev pub invariant-loop-i : goal.invariant-loop-i
invariant-loop-i l = l.kinds.items ++ open_terms (drop l.i l.parameters) (drop l.i l.numbers) ≡ open_terms l.parameters l.numbers
