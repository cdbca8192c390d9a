use Rattle.std.proofs.Common.{map, take}
use Rattle.expression_types.specs.Seen.{pending}
use Rattle.type_infer.specs.Settling.{AreSettledTexts}
use Rattle.type_infer.proofs.settling.settled_texts.Given as goal

abbrev pub invariant-loop-kind : goal.invariant-loop-kind
invariant-loop-kind l = AreSettledTexts l.subst (map pending (take l.kind-index l.kinds)) l.settled
