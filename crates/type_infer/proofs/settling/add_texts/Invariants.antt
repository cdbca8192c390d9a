use Rattle.std.proofs.Common.{map, take}
use Rattle.expression_types.specs.Seen.{text_use}
use Rattle.type_infer.specs.Settling.{AddsTexts}
use Rattle.type_infer.proofs.settling.add_texts.Given as goal

abbrev pub invariant-loop-one : goal.invariant-loop-one
invariant-loop-one l = AddsTexts l.subst (map text_use (take l.one-index l.text)) l.fn.uses.items l.uses.items
