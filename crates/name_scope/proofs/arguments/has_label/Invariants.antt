use Rattle.std.proofs.Common.{◌≡◌, drop}
use Rattle.name_scope.proofs.Filling.{is_labelled}
use Rattle.name_scope.proofs.arguments.has_label.Given as goal

abbrev pub invariant-loop-arg : goal.invariant-loop-arg
invariant-loop-arg l = is_labelled (drop l.arg-index l.args) ≡ is_labelled l.args
