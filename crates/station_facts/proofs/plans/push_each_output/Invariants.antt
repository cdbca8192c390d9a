use Rattle.station_facts.specs.Plans.{output_object}
use Rattle.station_facts.proofs.Each.{Goes}
use Rattle.station_facts.proofs.plans.push_each_output.Given as goal

abbrev pub invariant-loop-sink : goal.invariant-loop-sink
invariant-loop-sink l = Goes (output_object l.plan l.inferred) l.sink-items l.sink-index l.fn.out l.out
