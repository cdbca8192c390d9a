use Rattle.stations.proofs.AsOne.{as_one_thread}
use Rattle.stations.proofs.Gapless.{is_bare_setting}
use Rattle.stations.proofs.laws.threads_render_as_one_thread.Goals as goal

pub returns : goal.returns
returns c = λ files station run plan accepted start lawful local.
    as_one_thread c.lawful_records_are_rounds.ensures c.rounds_are_one.ensures station run (is_bare_setting files station plan accepted start) station.way lawful local
