use Rattle.std.proofs.Common.{◌≡◌, ◌≤◌, drop, map}
use Rattle.trace_records.specs.Told.{are_legal}
use Rattle.trace_records.specs.Traces.{pair_of}
use Rattle.trace_records.proofs.windows.are_legal.Given as goal

abbrev pub invariant-loop-window : goal.invariant-loop-window
invariant-loop-window l = record {
  low : l.opening ≤ l.capacity;
  left : are_legal l.capacity 0 (map pair_of l.windows) ≡ are_legal l.capacity l.opening (map pair_of (drop l.window-index l.windows));
}
