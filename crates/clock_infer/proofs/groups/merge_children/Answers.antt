use Rattle.std.proofs.Common.{List, ℕ, take, sym, subst}
use Rattle.clock_infer.specs.Groups.{AreBelow}
use Rattle.clock_infer.proofs.Merging.{merged_all_below}
use Rattle.clock_infer.proofs.groups.merge_children.Goals as goal

pub merge-requires-clause-below : goal.merge-requires-clause-below
merge-requires-clause-below c =
    let P : List ℕ → Type 0 = λ groups. AreBelow groups in
    subst P (sym c.loop-child.invariant) (merged_all_below c.args.groups.now c.args.parent (take c.loop-child.child-index c.args.children.now) c.requires.below)
