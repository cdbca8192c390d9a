use Rattle.std.proofs.Common.{[], take}
use Rattle.general_types.specs.Renewing.{Renews}
use Rattle.general_types.specs.Walks.{held_of}
use Rattle.general_types.proofs.renewing.renew_types.Given as goal

abbrev pub invariant-loop-number : goal.invariant-loop-number
invariant-loop-number l = Renews l.subst (take l.number-index l.numbers) [] (held_of l.fn.reached) (held_of l.reached)
