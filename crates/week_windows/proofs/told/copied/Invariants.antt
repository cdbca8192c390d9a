use Rattle.std.proofs.Common.{◌≡◌, take}
use Rattle.week_windows.proofs.told.copied.Given as goal

abbrev pub invariant-loop-one : goal.invariant-loop-one
invariant-loop-one l = l.all.items ≡ take l.one-index l.windows
