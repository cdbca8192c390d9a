use Rattle.std.proofs.Common.{◌≡◌, take}
use Rattle.trace_replay.proofs.logs.copy_windows.Given as goal

abbrev pub invariant-loop-window : goal.invariant-loop-window
invariant-loop-window l = l.copies.items ≡ take l.window-index l.windows
