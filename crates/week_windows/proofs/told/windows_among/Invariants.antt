use Rattle.std.specs.Prelude.{⊤}
use Rattle.week_windows.proofs.told.windows_among.Given as goal

abbrev pub invariant-loop-one : goal.invariant-loop-one
invariant-loop-one l = ⊤
