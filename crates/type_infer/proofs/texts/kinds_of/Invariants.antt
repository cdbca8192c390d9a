use Rattle.std.proofs.Common.{◌≡◌, map, take}
use Rattle.expression_types.specs.Seen.{pending}
use Rattle.type_infer.specs.TextUses.{pending_of}
use Rattle.type_infer.proofs.texts.kinds_of.Given as goal

abbrev pub invariant-loop-kind : goal.invariant-loop-kind
invariant-loop-kind l = map pending l.kinds.items ≡ map pending_of (take l.kind-index l.text)
