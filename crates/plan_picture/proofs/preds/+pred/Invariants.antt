use Rattle.std.proofs.Common.{◌≡◌, ◌++◌, take}
use Rattle.plan_blames.specs.Texts.{numbered}
use Rattle.plan_picture.proofs.Parts.{part_with}
use Rattle.plan_picture.proofs.preds.+pred.Given as goal

abbrev pub invariant-push_parts-loop-n : goal.invariant-push_parts-loop-n
invariant-push_parts-loop-n l = l.into.items ≡ l.initial.into.items ++ numbered (part_with l.word) 0 (take l.n l.parts)
