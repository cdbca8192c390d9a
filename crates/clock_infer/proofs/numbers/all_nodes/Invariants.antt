use Rattle.std.proofs.Common.{◌≡◌, ◌<◌, ℕ, length, slice_index}
use Rattle.clock_infer.proofs.numbers.all_nodes.Given as goal

abbrev pub invariant-loop-number : goal.invariant-loop-number
invariant-loop-number l = record {
  size : length l.nodes.items ≡ l.number;
  own : (i : ℕ) → i < l.number → slice_index l.nodes.items i ≡ i;
}
