use Rattle.station_facts.proofs.Gathered.{Puts}
use Rattle.station_facts.proofs.leaves.add_all.Given as goal

abbrev pub invariant-loop-name : goal.invariant-loop-name
invariant-loop-name l = Puts l.more l.name-index l.fn.names.keys l.names.keys
