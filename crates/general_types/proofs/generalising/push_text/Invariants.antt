use Rattle.std.proofs.Common.{◌≡◌, map, take}
use Rattle.general_types.specs.Texts.{text_kind}
use Rattle.general_types.proofs.generalising.push_text.Given as goal

abbrev pub invariant-loop-kind : goal.invariant-loop-kind
invariant-loop-kind l = l.text.items ≡ map (text_kind l.parameters) (take l.kind-index l.kinds)
