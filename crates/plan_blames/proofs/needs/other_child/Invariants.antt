use Rattle.std.proofs.Common.{◌≡◌, ℕ, true, take}
use Rattle.std.specs.List.{list_any}
use Rattle.plan_blames.specs.Needs.{is_child}
use Rattle.plan_blames.proofs.needs.other_child.Given as goal

abbrev pub invariant-loop-child : goal.invariant-loop-child
invariant-loop-child l = (other : ℕ) → list_any (is_child other) (take l.child-index l.children) ≡ true → other ≡ l.first
