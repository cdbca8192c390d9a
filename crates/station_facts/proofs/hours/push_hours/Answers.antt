use Rattle.station_facts.proofs.Each.{join}
use Rattle.station_facts.proofs.hours.push_hours.Goals as goal

pub returns : goal.returns
returns c =
    join c.in_ok-begin.ensures (join (join c.in_ok-push_number.ensures (join c.in_ok-push_number-2.ensures
    (join c.in_ok-push_cases.ensures c.in_ok-push_none.ensures))) c.in_ok-end.ensures)
