use Rattle.station_facts.specs.Hours.{hours_object}
use Rattle.week_windows.specs.Windows.{spans_in}
use Rattle.station_facts.proofs.Each.{Goes}
use Rattle.station_facts.proofs.hours.push_each_case.Given as goal

abbrev pub invariant-loop-spans : goal.invariant-loop-spans
invariant-loop-spans l = Goes (λ spans. hours_object l.most (spans_in spans)) l.cases l.spans-index l.fn.out l.out
