-- What a run of the engines leaves.
use Rattle.std.specs.Prelude.{◌≡◌, ℕ, List, length, map}
use Rattle.liq_base.specs.Pieces.{SinkTold}
use Rattle.liq_base.specs.Shelves.{ShelfTold}
use Rattle.clock_infer.specs.declared.clock_map.ClockMap.{ClockMap}
use Rattle.stream_meaning.specs.Instants.{Setting, answered}
use Rattle.run_records.specs.Records.{Run, setting_in}
use Rattle.stations.specs.Stations.{Way, IsBegunIn, IsLawfulIn, answers_with}
use Rattle.buffer_ends.specs.Local.{Answers}
use Rattle.buffer_ends.specs.declared.counts.Counts.{Counts}
use Rattle.buffer_ends.specs.declared.run_end.End.{End}
use Rattle.buffer_ends.specs.declared.run_end.End.TheVariants.{Write}
use Rattle.clock_ticks.specs.declared.engine.ClockEngine.{ClockEngine}
use Rattle.buffer_sides.specs.Logs.{told as told_of}
use Rattle.rounds_run.specs.Rounds.{HaveRunPart}
use Rattle.rounds_run.specs.Runs.{HaveRunTicks, counts_of_run}
use Rattle.station_render.specs.Engines.{AreAt, AreEmptyBelow, ArePast, outs_of}
use Rattle.station_render.specs.Sinks.{AreCreated, HasFailed}
use Rattle.station_render.specs.Renders.{IsReady, order_of, written}
use Rattle.station_render.specs.declared.job.Job.{Job}
use Rattle.station_render.specs.declared.output_sink.OutputSink.{OutputSink}

-- All engines of a job have made the same number of ticks. The setting from which their streams are computed has the
-- job's plan and clocks.
abbrev pub HaveEnded : {S : Type 0} → Job → List (ClockEngine S) → Type 0
HaveEnded job engines = (setting : Setting) × (world : Setting) × (ticks : ℕ) × (setting.plan ≡ job.plan)
    × (setting.clocks ≡ job.ready.clocks.of) × ArePast setting world ticks engines

-- The outputs of a plan were created on this shelf, and no tick was made. Each engine, one for each running clock,
-- holds the sinks of its clock, which have their headers and room for the samples. `order` has the clock of each
-- output, and the lists of sinks in `groups` are empty. `told` says what a sink tells.
pub record AreOpened {O : Type 0} (told : O
    → SinkTold) (shelf : ShelfTold) (setting : Setting) (clocks : ClockMap) (ticks : ℕ)
    (order : List ℕ) (engines : List (ClockEngine (OutputSink O))) (groups : List (List (OutputSink O))) : Type 0 where
  pub order_is : order ≡ order_of setting (written setting.plan.sinks)
  pub all : length engines ≡ clocks.running
  pub at : AreAt setting engines
  pub ready : AreCreated (IsReady told shelf setting ticks) (written setting.plan.sinks)
      (order_of setting (written setting.plan.sinks)) (outs_of engines)
  pub many : length groups ≡ length engines
  pub taken : AreEmptyBelow (length engines) groups

-- The engines of so many clocks made all ticks, as some lawful run in this way does: `old` are they before and `new`
-- after. Each has written the bytes of its ticks, one piece for each tick. `counts` and `logs` are what the buffers
-- answered, and `told` says what a sink tells.
pub record RanAll {S : Type 0} (told : S → SinkTold) (setting : Setting) (clocks ticks : ℕ) (way : Way)
    (old new : List (ClockEngine S)) (counts : List Counts) (logs : List (List Answers)) : Type 0 where
  pub run : Run
  pub lawful : IsLawfulIn setting clocks ticks way run
  pub engines : HaveRunTicks told (setting_in setting run) ticks old new
  pub counts_are : counts ≡ counts_of_run run
  pub logs_are : logs ≡ map (map told_of) run.buffers

-- The engines of so many clocks made some ticks, as a lawful run in this way begins: `old` are they before and `new`
-- after. Each has written the bytes of the ticks that it made, and maybe some of those that it tried. If a failed
-- write is the `end` of the run, a sink has failed; `told` says what one tells.
pub record RanSome {S : Type 0} (told : S → SinkTold) (setting : Setting) (clocks ticks : ℕ) (way : Way)
    (old new : List (ClockEngine S)) (end : End) : Type 0 where
  pub run : Run
  pub begun : IsBegunIn setting clocks ticks way run
  pub part : HaveRunPart told (λ rest. answered setting (answers_with way run rest)) begun.made begun.tried old new
  pub failed : (clock sink : ℕ) → end ≡ Write clock sink → HasFailed told (outs_of new)
