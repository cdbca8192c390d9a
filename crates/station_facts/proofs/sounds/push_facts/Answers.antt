use Rattle.station_facts.proofs.Each.{join}
use Rattle.station_facts.proofs.sounds.push_facts.Goals as goal

pub returns : goal.returns
returns c =
    rw (← c.use_word.ensures, ← c.bits_of.ensures, ← c.from.ensures)
    (join c.in_ok-push_state.ensures (join c.in_ok-push_kind.ensures (join c.in_ok-push_number.ensures (join c.in_ok-push_number-2.ensures
    (join c.in_ok-push_number-3.ensures (join c.in_ok-push_number-4.ensures (join c.in_ok-push_number-5.ensures c.in_ok-push_number-6.ensures)))))))
