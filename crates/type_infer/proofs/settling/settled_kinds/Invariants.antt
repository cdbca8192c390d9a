use Rattle.std.proofs.Common.{take}
use Rattle.type_infer.specs.Settling.{AreSettledKinds}
use Rattle.type_infer.proofs.settling.settled_kinds.Given as goal

abbrev pub invariant-loop-kind : goal.invariant-loop-kind
invariant-loop-kind l = AreSettledKinds l.subst (take l.kind-index l.kinds) l.settled
