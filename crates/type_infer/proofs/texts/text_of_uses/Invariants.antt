use Rattle.std.proofs.Common.{◌≡◌, ◌++◌, drop, map}
use Rattle.expression_types.specs.Seen.{founds, text_use}
use Rattle.type_infer.specs.TextUses.{text_uses}
use Rattle.type_infer.proofs.texts.text_of_uses.Given as goal

abbrev pub invariant-loop-found : goal.invariant-loop-found
invariant-loop-found l = map text_use l.done.items ++ text_uses (founds (drop l.found-index l.uses)) l.left ≡ text_uses (founds l.uses) l.text
