-- The summary that is printed of a rendered workload.
use Rattle.std.specs.Prelude.{◌≡◌, ℕ, ℤ, pos, ◌+ℤ◌, ◌*◌, List, [], ◌∷◌, ◌++◌, codes, drop, fold, unwrap_or}
use Rattle.std.specs.Fmt.{signed_decimal}
use Rattle.liq_base.specs.Files.{Files, file_at}
use Rattle.frame_core.specs.Bytes.{samples_from}
use Rattle.plan_core.specs.declared.sink.SinkPlan.{SinkPlan}
use Rattle.plan_core.specs.declared.sink.SinkPlan.TheVariants.{Output, Feed}
use Rattle.run_records.specs.Records.{IsRounds, Run}
use Rattle.stations.specs.Outputs.{with_outputs}
use Rattle.stations.specs.Reports.{counted_part}
use Rattle.stations.specs.Stations.{Station, bare}
use Rattle.stations.specs.Streams.{gaps_of, output_files}

-- The sum of all samples of a WAV file of 16 bits, left and right. They stand after the 44 bytes of its header.
abbrev pub sum_of : List ℕ → ℤ
sum_of bytes = fold ◌+ℤ◌ (pos 0) (samples_from (drop 44 bytes))

-- The sum of all samples in the WAV file of this name; 0 where there is no such file.
abbrev pub sum_at : Files → (name : List ℕ) → ℤ
sum_at files name = sum_of (unwrap_or (file_at files name) [])

-- The end of an output's line in the summary of a workload: ` sum `, the sum of all samples of the output, and a line
-- feed.
abbrev pub sum_part : (sum : ℤ) → List ℕ
sum_part sum = codes " sum " ++ signed_decimal sum ++ codes "\n"

-- The line of one output in the summary of a workload: its name, the samples on each side, the gaps, and the sum of its
-- samples.
abbrev pub summed_line : (name : List ℕ) (samples gaps : ℕ) (sum : ℤ) → List ℕ
summed_line name samples gaps sum = counted_part name samples gaps ++ sum_part sum

-- The lines of the summary of a workload for these sinks of the plan: one for each output, in order, from what the run
-- wrote to `files`. A feed of a buffer has none.
abbrev pub summed_lines : Station → Run → Files → List SinkPlan → List ℕ
summed_lines station run files [] = []
summed_lines station run files (Output name node fallible wide ∷ sinks) =
    summed_line name (station.ticks * station.plan.frame) (gaps_of station run node) (sum_at files name)
    ++ summed_lines station run files sinks
summed_lines station run files (Feed buffer node ∷ sinks) = summed_lines station run files sinks

-- The summary that is printed of a workload: a line for each output of the run, by what it wrote among these files.
abbrev pub summary_of : Files → Station → Run → List ℕ
summary_of files station run = summed_lines station run (with_outputs files (output_files station run))
    station.plan.sinks

-- This is the summary that one thread prints of a workload: rounds on one thread have exactly one record of what the
-- buffers answered (`alone`), and the summary of that run is this one. `files` are those of the workload.
pub record SumsAsOneThread (files : Files) (station : Station) (summary : List ℕ) : Type 0 where
  pub alone : Run
  pub rounds : IsRounds (bare station) station.clocks.running station.ticks alone
  pub one : (other : Run) → IsRounds (bare station) station.clocks.running station.ticks other → other ≡ alone
  pub summary_is : summary ≡ summary_of files station alone
