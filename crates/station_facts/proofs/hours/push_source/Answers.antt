use Rattle.station_facts.proofs.hours.push_source.Goals as goal

pub returns-in-Switch-clause-told : goal.returns-in-Switch-clause-told
returns-in-Switch-clause-told c = rw (c.in-Switch.is, ← c.as_slice.ensures) c.push_switch.ensures.told
