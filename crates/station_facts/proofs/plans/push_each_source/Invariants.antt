use Rattle.week_windows.specs.Known.{IsKnown}
use Rattle.station_facts.specs.Plans.{source_object}
use Rattle.station_facts.proofs.Each.{Threes}
use Rattle.station_facts.proofs.plans.push_each_source.Given as goal

abbrev pub invariant-loop-k : goal.invariant-loop-k
invariant-loop-k l = record {
  told : Threes source_object l.nodes l.marks l.ats l.k l.fn.out l.out;
  known : IsKnown l.known;
}
