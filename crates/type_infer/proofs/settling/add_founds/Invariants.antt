use Rattle.expression_types.specs.Seen.{founds}
use Rattle.type_infer.specs.Settling.{AddsFounds}
use Rattle.type_infer.proofs.settling.add_founds.Given as goal

abbrev pub invariant-loop-one : goal.invariant-loop-one
invariant-loop-one l = AddsFounds l.subst (founds l.yielded) l.fn.uses.items l.uses.items
