use Rattle.type_terms.specs.Nested.{terms}
use Rattle.general_types.specs.Walks.{Leads, held_of}
use Rattle.general_types.proofs.walking.walk.Given as goal

abbrev pub invariant-loop-step : goal.invariant-loop-step
invariant-loop-step l = Leads l.subst (terms l.fn.work.items) (terms l.work.items) (held_of l.fn.reached) (held_of l.reached)
