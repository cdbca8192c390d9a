use Rattle.std.proofs.Common.{◌≡◌, ◌<◌, ◌||◌, ℕ, false, take, length, get_or}
use Rattle.std.specs.Prelude.{nat_eq}
use Rattle.std.specs.List.{list_any}
use Rattle.week_lines.proofs.below.mark_all.Given as goal

abbrev pub invariant-loop-child : goal.invariant-loop-child
invariant-loop-child l = record {
  size : length l.below ≡ length l.fn.below;
  marked : (n : ℕ) → n < length l.fn.below → get_or l.below n false
      ≡ (get_or l.fn.below n false || list_any (λ child. nat_eq child n) (take l.child-index l.children));
}
