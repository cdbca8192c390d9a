use Rattle.std.proofs.Common.{◌∙◌, ap, map, take_all}
use Rattle.type_instances.specs.Rows.{numbered_row}
use Rattle.type_instances.proofs.Pushing.{named_next}
use Rattle.type_instances.proofs.builtin_types.row_types.Goals as goal

pub loop-ty-preserved : goal.loop-ty-preserved
loop-ty-preserved c = named_next (numbered_row c.args.any c.args.kind) c.loop-ty.types.items _ c.args.row.now c.loop-ty.ty-index _ _ c.loop-ty-test.true c.in_ok-next.ensures c.in_ok-push.ensures.items c.loop-ty.invariant

pub returns : goal.returns
returns c = c.loop-ty.invariant ∙ ap (map (numbered_row c.args.any c.args.kind)) (take_all _ _ c.loop-ty-test.false)
