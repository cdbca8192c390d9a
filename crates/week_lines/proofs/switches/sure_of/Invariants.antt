use Rattle.std.proofs.Common.{◌≡◌, take}
use Rattle.std.specs.Prelude.{map}
use Rattle.fallible_infer.specs.Infallible.{mark_at}
use Rattle.week_lines.proofs.switches.sure_of.Given as goal

abbrev pub invariant-loop-child : goal.invariant-loop-child
invariant-loop-child l = l.sure.items ≡ map (mark_at l.marks) (take l.child-index l.children)
