use Rattle.week_windows.specs.Known.{IsKnown}
use Rattle.station_facts.proofs.Switches.{Switched}
use Rattle.station_facts.proofs.hours.push_each_switch.Given as goal

abbrev pub invariant-loop-k : goal.invariant-loop-k
invariant-loop-k l = record {
  told : Switched l.most l.nodes l.ats l.k l.fn.out l.out;
  known : IsKnown l.known;
}
