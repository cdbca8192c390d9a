use Rattle.std.proofs.Common.{◌≤◌, arith}
use Rattle.clock_infer.proofs.Merging.{renamed_part, merged_first, merged_second, renamed_own}
use Rattle.std.specs.Prelude.{slice_index}
use Rattle.clock_infer.proofs.groups.merge.Goals as goal

pub returns-then-one-other : goal.returns-then-one-other
returns-then-one-other c =
    let most : slice_index c.args.groups.now c.args.child ≤ c.args.child = c.requires.below c.args.child c.requires.child in
    merged_first c.args.groups.now c.args.parent c.args.child _ c.if-one-other.true (renamed_part c.args.groups.now c.rename.new.groups _ _ c.requires.below (omega arith) c.rename.ensures)

pub returns-then-other-one : goal.returns-then-other-one
returns-then-other-one c =
    let most : slice_index c.args.groups.now c.args.parent ≤ c.args.parent = c.requires.below c.args.parent c.requires.parent in
    merged_second c.args.groups.now c.args.parent c.args.child _ c.if-one-other.false (renamed_part c.args.groups.now c.rename-then-other-one.new.groups _ _ c.requires.below (omega arith) c.rename-then-other-one.ensures)

pub returns-else-other-one : goal.returns-else-other-one
returns-else-other-one c = merged_second c.args.groups.now c.args.parent c.args.child _ c.if-one-other.false (renamed_own c.args.groups.now _ _ (omega arith))
