use Rattle.station_facts.specs.Hours.{span_list}
use Rattle.station_facts.proofs.Each.{Goes}
use Rattle.station_facts.proofs.hours.push_each_span.Given as goal

abbrev pub invariant-loop-span : goal.invariant-loop-span
invariant-loop-span l = Goes span_list l.spans l.span-index l.fn.out l.out
