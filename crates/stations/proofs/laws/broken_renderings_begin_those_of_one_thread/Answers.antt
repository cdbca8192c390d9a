use Rattle.run_records.specs.OneThread.{rounds_record}
use Rattle.run_records.specs.Records.{IsRounds, Run}
use Rattle.stations.specs.Stations.{bare}
use Rattle.stations.proofs.AsOne.{begins_as_one}
use Rattle.stations.proofs.Gapless.{is_bare_setting}
use Rattle.stations.proofs.laws.broken_renderings_begin_those_of_one_thread.Goals as goal

pub returns : goal.returns
returns c = λ files station run plan accepted start begun determined.
    let is = is_bare_setting files station plan accepted start in
    let alone : Run = rounds_record (bare station) station.clocks.running station.ticks in
    let rounds : IsRounds (bare station) station.clocks.running station.ticks alone =
    c.rounds_have_a_record.ensures (bare station) station.clocks is station.clocks.running station.ticks in
    record {
      alone = alone;
      rounds = rounds;
      one = λ other are. c.rounds_are_one.ensures (bare station) station.clocks is station.clocks.running station.ticks other alone are rounds;
      begins = begins_as_one c.broken_windows_begin_rounds.ensures c.broken_rounds_begin_rounds.ensures c.lawful_records_are_rounds.ensures
          c.rounds_are_one.ensures station run is station.way begun determined alone rounds;
    }
