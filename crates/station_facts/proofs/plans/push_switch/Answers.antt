use Rattle.station_facts.proofs.Each.{join}
use Rattle.station_facts.proofs.plans.push_switch.Goals as goal

pub returns-clause-told : goal.returns-clause-told
returns-clause-told c =
    join c.in_ok-push_word.ensures (join c.in_ok-push_flag.ensures
    (rw (c.deref.ensures.value, c.in_ok-windows.ensures.windows) at c.in_ok-push_windows.ensures))
