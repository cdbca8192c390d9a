use Rattle.station_facts.proofs.Each.{join}
use Rattle.station_facts.proofs.files.push_all.Goals as goal

pub returns : goal.returns
returns c =
    rw (← c.requires.lists, ← c.requires.sounds, ← c.in_ok-all_bytes.ensures)
    (join c.in_ok-begin.ensures (join (join c.in_ok-push_plan.ensures (join c.in_ok-push_lists.ensures (join c.in_ok-push_sounds.ensures
    (join c.in_ok-push_number.ensures c.in_ok-push_limits.ensures)))) c.in_ok-end.ensures))
