use Rattle.trace_records.proofs.Retelling.{run_told}
use Rattle.stations.proofs.AsOne.{one_record}
use Rattle.stations.proofs.Gapless.{is_bare_setting}
use Rattle.stations.proofs.laws.one_thread_has_one_record.Goals as goal

pub returns : goal.returns
returns c = λ files station run plan accepted start lawful of_one other also.
    one_record c.rounds_are_one.ensures run_told station run (is_bare_setting files station plan accepted start) station.way lawful of_one other also
