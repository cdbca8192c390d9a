use Rattle.std.proofs.Common.{◌≡◌, ℕ, pos, length, map, take}
use Rattle.std.specs.List.{range_with_len}
use Rattle.op_leaf.proofs.leaf.silence.Given as goal

abbrev pub invariant-loop-at : goal.invariant-loop-at
invariant-loop-at l = record {
  long : length l.into ≡ length l.initial.into;
  zeros : (p : ℕ) → take l.at l.into ≡ map (λ q. pos 0) (range_with_len p l.at);
}
