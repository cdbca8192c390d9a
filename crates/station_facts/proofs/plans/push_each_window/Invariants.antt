use Rattle.station_facts.specs.Plans.{windows_object}
use Rattle.station_facts.proofs.Each.{Goes}
use Rattle.station_facts.proofs.plans.push_each_window.Given as goal

abbrev pub invariant-loop-one : goal.invariant-loop-one
invariant-loop-one l = Goes windows_object l.windows l.one-index l.fn.out l.out
