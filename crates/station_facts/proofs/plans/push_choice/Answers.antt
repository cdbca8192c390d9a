use Rattle.station_facts.proofs.Each.{join}
use Rattle.station_facts.proofs.plans.push_choice.Goals as goal

pub returns : goal.returns
returns c = join c.in_ok-push_word.ensures c.in_ok-push_flag.ensures
