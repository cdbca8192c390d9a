use Rattle.expression_types.proofs.Calling.{begun}
use Rattle.expression_types.proofs.callees.begin_call.Goals as goal

pub returns : goal.returns
returns c = begun _ _ _ _ _ _ _ _ _ _ _ c.in_ok-instance.ensures.instance c.in_ok-instance.ensures.counted c.in_ok-callee.ensures c.in_ok-push_use.ensures
