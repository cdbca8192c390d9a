use Rattle.std.proofs.Common.{◌≡◌, take}
use Rattle.std.specs.Prelude.{map}
use Rattle.time_pred.specs.View.{view_pred}
use Rattle.time_pred.proofs.pred.+copy.Given as goal

abbrev pub invariant-copies-loop-part : goal.invariant-copies-loop-part
invariant-copies-loop-part l = map view_pred l.copies.items ≡ map view_pred (take l.part-index l.parts)
