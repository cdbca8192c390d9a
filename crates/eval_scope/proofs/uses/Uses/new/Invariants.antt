use Rattle.std.proofs.Common.{take}
use Rattle.eval_scope.specs.Places.{IsTable, is_use}
use Rattle.eval_scope.proofs.uses.Uses.new.Given as goal

abbrev pub invariant-loop-place : goal.invariant-loop-place
invariant-loop-place l = IsTable is_use l.places (take l.place l.all)
