use Rattle.station_facts.specs.Files.{sound_object}
use Rattle.station_facts.proofs.Each.{Pairs}
use Rattle.station_facts.proofs.sounds.push_each_sound.Given as goal

abbrev pub invariant-loop-k : goal.invariant-loop-k
invariant-loop-k l = Pairs (sound_object l.rules) l.names l.looks l.k l.fn.out l.out
