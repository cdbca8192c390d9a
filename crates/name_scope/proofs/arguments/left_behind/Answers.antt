use Rattle.name_scope.proofs.Filling.{left_next}
use Rattle.name_scope.proofs.arguments.left_behind.Goals as goal

pub loop-param-preserved : goal.loop-param-preserved
loop-param-preserved c = left_next c.args.params.now c.loop-param.param-index _ c.loop-param.left _ _ c.loop-param-test.true c.loop-param.invariant c.left_by-left.ensures.same
