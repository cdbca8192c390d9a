use Rattle.station_facts.proofs.Each.{join}
use Rattle.station_facts.proofs.files.push_limits.Goals as goal

pub returns : goal.returns
returns c = join c.in_ok-push_number.ensures (join c.in_ok-push_number-2.ensures (join c.in_ok-push_number-3.ensures c.in_ok-push_number-4.ensures))
