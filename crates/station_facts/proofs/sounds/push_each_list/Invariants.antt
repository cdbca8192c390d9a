use Rattle.station_facts.specs.Files.{list_object}
use Rattle.station_facts.proofs.Each.{Pairs}
use Rattle.station_facts.proofs.sounds.push_each_list.Given as goal

abbrev pub invariant-loop-k : goal.invariant-loop-k
invariant-loop-k l = Pairs list_object l.names l.looks l.k l.fn.out l.out
