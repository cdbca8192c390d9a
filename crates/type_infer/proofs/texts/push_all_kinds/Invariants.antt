use Rattle.std.proofs.Common.{◌≡◌, take}
use Rattle.expression_types.specs.Seen.{founds}
use Rattle.type_infer.specs.TextUses.{kinds_in}
use Rattle.type_infer.proofs.texts.push_all_kinds.Given as goal

abbrev pub invariant-loop-found : goal.invariant-loop-found
invariant-loop-found l = l.kinds.items ≡ kinds_in (founds (take l.found-index l.uses))
