use Rattle.std.proofs.Common.{take}
use Rattle.eval_scope.specs.Places.{IsTable, is_def}
use Rattle.eval_scope.proofs.defs.Defs.new.Given as goal

abbrev pub invariant-loop-place : goal.invariant-loop-place
invariant-loop-place l = IsTable is_def l.places (take l.place l.script.statements.items)
