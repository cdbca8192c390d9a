use Rattle.std.proofs.Common.{◌≡◌, length, take}
use Rattle.std.specs.Prelude.{string_bytes}
use Rattle.run_records.specs.Records.{Run}
use Rattle.stations.specs.Stations.{Station}
use Rattle.stations.specs.Streams.{gaps_in_order}
use Rattle.station_render.specs.Renders.{written}
use Rattle.station_jobs.specs.Summary.{summed_lines}
use Rattle.station_jobs.proofs.summary.summary.Given as goal

abbrev pub invariant-loop-sink : goal.invariant-loop-sink
invariant-loop-sink l = record {
  place : l.place ≡ length (written (take l.sink-index l.plan.sinks));
  told : (station : Station) → (run : Run) → station.plan ≡ l.plan → station.ticks ≡ l.ticks → l.gaps ≡ gaps_in_order station run
      → string_bytes l.text ≡ summed_lines station run l.shelf (take l.sink-index l.plan.sinks);
}
