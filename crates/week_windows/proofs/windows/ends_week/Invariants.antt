use Rattle.std.proofs.Common.{◌≡◌, false, take}
use Rattle.week_windows.specs.Windows.{ends_week}
use Rattle.week_windows.proofs.windows.ends_week.Given as goal

abbrev pub invariant-loop-span : goal.invariant-loop-span
invariant-loop-span l = ends_week (take l.span-index l.spans) ≡ false
