use Rattle.std.proofs.Common.{◌≡◌, false, take}
use Rattle.std.specs.List.{list_any}
use Rattle.fallible_infer.specs.Infallible.{mark_at}
use Rattle.fallible_infer.proofs.nodes.some_child.Given as goal

abbrev pub invariant-loop-child : goal.invariant-loop-child
invariant-loop-child l = list_any (mark_at l.marks) (take l.child-index l.children) ≡ false
