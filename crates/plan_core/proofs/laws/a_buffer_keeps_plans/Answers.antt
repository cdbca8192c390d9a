use Rattle.plan_core.proofs.Grown.{buffer_keeps}
use Rattle.plan_core.proofs.laws.a_buffer_keeps_plans.Goals as goal

pub returns : goal.returns
returns c = λ plan source from buffer w room room_of_sinks is stands. buffer_keeps plan w source from stands buffer room room_of_sinks is
