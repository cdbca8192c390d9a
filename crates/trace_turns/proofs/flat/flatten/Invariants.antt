use Rattle.std.proofs.Common.{◌≡◌, ◌<◌, ℕ, suc, Some, length, take, slice_get, flat_map}
use Rattle.trace_turns.specs.Logs.{side_of}
use Rattle.trace_turns.proofs.flat.flatten.Given as goal

abbrev pub invariant-loop-window : goal.invariant-loop-window
invariant-loop-window l = record {
  flat : l.flat.items ≡ flat_map (side_of l.puts) (take l.window-index l.windows);
  size : length l.ends.items ≡ l.window-index;
  ends : (j : ℕ) → j < l.window-index → slice_get l.ends.items j ≡ Some (length (flat_map (side_of l.puts) (take (suc j) l.windows)));
}
