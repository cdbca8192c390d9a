use Rattle.station_facts.specs.Files.{entries_in}
use Rattle.station_facts.proofs.Gathered.{Gathers}
use Rattle.station_facts.proofs.leaves.sounds_of.Given as goal

abbrev pub invariant-loop-look : goal.invariant-loop-look
invariant-loop-look l = Gathers entries_in l.looks l.look-index l.initial.names.keys l.names.keys
