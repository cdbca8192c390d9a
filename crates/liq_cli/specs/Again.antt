-- A run by threads that is rendered again by its trace.
use Rattle.std.specs.Prelude.{◌≡◌, ℕ, List, None, false}
use Rattle.liq_base.specs.Files.{Files}
use Rattle.run_records.specs.Records.{Run}
use Rattle.trace_log.specs.Values.{TraceValue}
use Rattle.stations.specs.Reports.{report_of}
use Rattle.stations.specs.Stations.{Again, IsLawful, Station}
use Rattle.stations.specs.Streams.{output_files}
use Rattle.station_jobs.specs.Verdicts.{IsStation}
use Rattle.station_jobs.specs.Words.{Replay}

-- a station that is rendered again by this trace, and leaves neither a trace nor cue files
abbrev pub again : Station → TraceValue → Station
again station trace = record station { way = Again trace; trace = None; cues = false }

-- The call that replays this script (`file`) by the trace in the file `name` has a verdict over these files: a station,
-- rendered again by this trace. Whatever lawful record that has, it is that of the run. Its outputs and its report are
-- those of the run, too.
pub record IsRenderedAgain (files : Files) (file name : List ℕ) (station : Station) (trace : TraceValue)
    (run : Run) : Type 0 where
  pub verdict : IsStation (Replay file station.start station.ticks name) files (again station trace)
  pub one : (other : Run) → IsLawful (again station trace) other → other ≡ run
  pub outputs_are : (other : Run) → IsLawful (again station trace) other
      → output_files (again station trace) other ≡ output_files station run
  pub report_is : (other : Run) → IsLawful (again station trace) other
      → report_of (again station trace) other ≡ report_of station run
