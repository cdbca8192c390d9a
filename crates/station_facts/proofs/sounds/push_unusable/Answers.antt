use Rattle.station_facts.proofs.sounds.push_unusable.Goals as goal

pub returns-in-TooLong : goal.returns-in-TooLong
returns-in-TooLong c = rw c.in-TooLong.is c.push_state-in-TooLong.ensures
