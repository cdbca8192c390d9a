use Rattle.station_jobs.proofs.AsOne.{sums_as_one}
use Rattle.station_jobs.proofs.laws.sums_are_as_on_one_thread.Goals as goal

pub returns : goal.returns
returns c = λ made station run fit start lawful local.
    sums_as_one c.lawful_records_are_rounds.ensures c.rounds_are_one.ensures made station run fit start lawful local
