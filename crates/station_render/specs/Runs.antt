-- What a run of a station leaves in its sinks, and what is told of it.
use Rattle.std.specs.Borrow.{Bor}
use Rattle.std.specs.Prelude.{◌≡◌, ℕ, suc, List, [], ◌∷◌, ◌++◌, Option, Some, None, map, option_map, ⊤}
use Rattle.std.specs.Option.{ForSome}
use Rattle.liq_base.specs.Pieces.{SinkTold}
use Rattle.liq_base.specs.Shelves.{ShelfTold}
use Rattle.plan_core.specs.declared.sink.BufferPlan.{BufferPlan}
use Rattle.stream_meaning.specs.Instants.{Setting}
use Rattle.run_records.specs.Records.{Run, windows_of}
use Rattle.stations.specs.Creations.{HaveListed, after_making, closings_in, closings_of, names_of}
use Rattle.stations.specs.Cues.{marks_of}
use Rattle.stations.specs.Findings.{IsFit}
use Rattle.stations.specs.Outputs.{OutputFile, with_outputs}
use Rattle.stations.specs.Reports.{answers_line}
use Rattle.stations.specs.Stations.{Station, Way, InRounds, InWindows, Again, IsBegun, IsLawful, answers_with, bare, setting_of_run}
use Rattle.stations.specs.Streams.{gaps_in_order, output_files}
use Rattle.stations.specs.Traces.{files_of, traced}
use Rattle.buffer_ends.specs.declared.counts.Counts.{Counts}
use Rattle.buffer_ends.specs.Local.{Answers}
use Rattle.buffer_sides.specs.Logs.{told as told_of}
use Rattle.rounds_run.specs.Runs.{counts_of_windows}
use Rattle.trace_records.specs.Traces.{IsAccepted, base_of}
use Rattle.station_render.specs.Sinks.{AreCreated}
use Rattle.station_render.specs.Marks.{cues_of}
use Rattle.station_render.specs.Renders.{AreBegun, IsWhole, written}
use Rattle.station_render.specs.declared.job.Job.{Job}
use Rattle.station_render.specs.declared.output_sink.OutputSink.{OutputSink}
use Rattle.station_render.specs.declared.rendered.Rendered.{Rendered}

-- For each of these buffers of a run, how many puts and takes succeeded and failed. The first buffer has the given
-- number, and the others follow.
abbrev pub counts_from : Run → (buffer : ℕ) → List BufferPlan → List Counts
counts_from run buffer [] = []
counts_from run buffer (plan ∷ plans) = counts_of_windows (windows_of run buffer) ∷ counts_from run (suc buffer) plans

-- for each buffer of a station's plan, how many puts and takes of a run succeeded and failed
abbrev pub counts_of : Station → Run → List Counts
counts_of station run = counts_from run 0 station.plan.buffers

-- the name of the file for the trace (the record of the buffers' answers), if a job wants one
abbrev pub name_in : Job → Option (List ℕ)
name_in job = option_map (λ (name : Bor (List ℕ)). name.now) job.trace

-- a job can be rendered: its plan, its library of files, its clocks and its count of ticks fit together
abbrev pub IsFitting : Job → Type 0
IsFitting job = IsFit job.plan job.ready.library job.ready.clocks job.ticks

-- what a job's streams are computed from: its plan, library, clocks and second of the week, before any buffer has
-- answered
abbrev pub setting_by : Job → Setting
setting_by job = base_of job.plan job.ready.library job.ready.clocks job.start.second

-- a job as the rules of a station describe it, rendered in this way: in rounds on one thread, in windows on threads, or
-- again by a trace
abbrev pub station_in : Job → Way → Station
station_in job way = record {
  plan = job.plan;
  library = job.ready.library;
  clocks = job.ready.clocks;
  start = job.start.second;
  ticks = job.ticks;
  way = way;
  trace = name_in job;
  cues = job.cues;
}

-- how many ticks a window has in this way of rendering; `None` where all clocks run on one thread
abbrev pub window_of : Way → Option ℕ
window_of InRounds = None
window_of (InWindows window) = Some window
window_of (Again trace) = None

-- The trace files that a run in this way leaves, of the buffers' answers, `logs`, in so many ticks. Only a run on
-- threads leaves one, and only where a name is given.
abbrev pub traces_by : Way → (name : Option (List ℕ)) → (ticks : ℕ) → List (List Answers) → List OutputFile
traces_by InRounds name ticks logs = []
traces_by (InWindows window) name ticks logs = traced name (record { ticks = ticks; window = window; buffers = logs })
traces_by (Again trace) name ticks logs = []

-- A run in this way can be told by a lawful record of what the buffers answered. Only a rendering by a trace needs
-- anything for it: a trace that the rules accept for so many clocks and ticks.
abbrev pub HasRecord : Setting → (clocks ticks : ℕ) → Way → Type 0
HasRecord setting clocks ticks InRounds = ⊤
HasRecord setting clocks ticks (InWindows window) = ⊤
HasRecord setting clocks ticks (Again trace) = IsAccepted setting clocks ticks trace

-- What a rendering tells is that of this run of the station: the gaps of each output, in sink order; each buffer's
-- counts and the answers of its windows; and the marks of each output, where cue files are wanted.
pub record IsTold (station : Station) (run : Run) (rendered : Rendered) : Type 0 where
  pub gaps_are : rendered.gaps.items ≡ gaps_in_order station run
  pub counts_are : rendered.counts.items ≡ counts_of station run
  pub logs_are : rendered.logs.items ≡ map (map told_of) run.buffers
  pub cues_are : cues_of rendered.cues.items ≡ marks_of station run

-- Some lawful run of the station wrote all its outputs: the shelf, from `old` to `new`, got their files, and no other,
-- and lists them as closed. `rendered` is what is told of this run.
pub record WroteOutputs (station : Station) (old new : ShelfTold) (rendered : Rendered) : Type 0 where
  pub run : Run
  pub lawful : IsLawful station run
  pub told : IsTold station run rendered
  pub outputs_written : ForSome old.files (λ files. new.files ≡ Some (with_outputs files (output_files station run)))
  pub listed : HaveListed (closings_in (setting_of_run station run) station.ticks station.plan.sinks) old.closed
      new.closed

-- Some lawful run of the station wrote all its files, with cue files and a trace where these are wanted. The shelf,
-- from `old` to `new`, got them, and no other, and lists them as created and closed. `rendered` is what is told of
-- this run.
pub record IsRendered (station : Station) (old new : ShelfTold) (rendered : Rendered) : Type 0 where
  pub run : Run
  pub lawful : IsLawful station run
  pub told : IsTold station run rendered
  pub all_written : ForSome old.files (λ files. new.files ≡ Some (with_outputs files (files_of station run)))
  pub made : new.created ≡ after_making (names_of station) old.created
  pub closed : HaveListed (closings_of station run) old.closed new.closed

-- Some lawful run of the station made all ticks: each output's sink got all its bytes but for a last zero byte.
-- `rendered` is what is told of this run. `order` has the clock of each output, `groups` the sinks of each clock, and
-- `told` says what a sink tells.
pub record RanWhole {O : Type 0} (told : O
    → SinkTold) (shelf : ShelfTold) (station : Station) (order : List ℕ) (groups : List (List (OutputSink O)))
    (rendered : Rendered) : Type 0 where
  pub run : Run
  pub lawful : IsLawful station run
  pub tells : IsTold station run rendered
  pub whole : AreCreated (IsWhole told shelf (setting_of_run station run) station.ticks) (written station.plan.sinks)
      order groups

-- A run of the station broke off after some ticks: each sink that was created has the bytes of the ticks that its
-- clock made, and maybe some of the next. `order` has the clock of each output, and `groups` the sinks of each clock.
-- `told` says what a sink tells, and `created_now` is the shelf's list of created names.
pub record RanPart {O : Type 0} (told : O
    → SinkTold) (shelf : ShelfTold) (station : Station) (order : List ℕ) (groups : List (List (OutputSink O)))
    (created_now : Option (List (List ℕ))) : Type 0 where
  pub run : Run
  pub begun : IsBegun station run
  pub parts : AreBegun told shelf (bare station) (answers_with station.way run) station.ticks begun.made begun.tried
      order groups created_now

-- the lines of a report on the buffers' successes and failures, one for each buffer; the first has the given number
abbrev pub counted_lines : (buffer : ℕ) → List Counts → List ℕ
counted_lines buffer [] = []
counted_lines buffer (counts ∷ others) = answers_line buffer counts.accepted counts.full counts.got counts.empty
    ++ counted_lines (suc buffer) others
