use Rattle.type_infer.specs.Settling.{AreDefaultOf}
use Rattle.type_infer.specs.Steps.{dones_in}
use Rattle.type_infer.proofs.settling.steps_uses.Given as goal

abbrev pub invariant-loop-step : goal.invariant-loop-step
invariant-loop-step l = AreDefaultOf l.subst (dones_in l.defs l.yielded) l.uses.items
