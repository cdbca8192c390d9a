use Rattle.station_facts.proofs.Each.{join}
use Rattle.station_facts.proofs.hours.push_switches.Goals as goal

pub returns : goal.returns
returns c =
    join c.in_ok-begin.ensures (join (join c.in_ok-push_number.ensures (join c.in_ok-begin_list.ensures
    (join c.in_ok-push_each_switch.ensures c.in_ok-end_list.ensures))) c.in_ok-end.ensures)
