-- What stands between the three parts of a rendering: the outputs are opened, the clocks make their ticks, the outputs
-- are closed.
use Rattle.std.specs.Prelude.{◌≡◌, ◌≤◌, ℕ, List, length}
use Rattle.liq_base.specs.Pieces.{SinkTold}
use Rattle.liq_base.specs.Shelves.{ShelfTold}
use Rattle.stations.specs.Creations.{after_making, names_in}
use Rattle.stations.specs.Stations.{Way}
use Rattle.buffer_ends.specs.declared.run_end.RunEnd.{RunEnd}
use Rattle.buffer_ends.specs.declared.run_end.End.TheVariants.{Done}
use Rattle.clock_ticks.specs.declared.engine.ClockEngine.{ClockEngine}
use Rattle.rounds_run.specs.Runs.{AreOver}
use Rattle.station_render.specs.Engines.{AreAt, AreKeeping}
use Rattle.station_render.specs.EngineRuns.{AreOpened, RanAll, RanSome}
use Rattle.station_render.specs.OutputSinks.{output_told}
use Rattle.station_render.specs.Runs.{setting_by}
use Rattle.station_render.specs.declared.job.Job.{Job}
use Rattle.station_render.specs.declared.output_sink.OutputSink.{OutputSink}

-- The engines of a job may begin their ticks: there is one for each running clock, before its first tick. Its sinks
-- have room for all that it will write; `told` says what a sink tells.
pub record AreReady {S : Type 0} (told : S → SinkTold) (job : Job) (engines : List (ClockEngine S)) : Type 0 where
  pub all : length engines ≡ job.ready.clocks.running
  pub at : AreAt (setting_by job) engines
  pub over : AreOver told job.plan job.ticks (setting_by job) engines

-- The engines of a job, `old` before and `new` after, ran their ticks in this way: all if the `run` ended as done, and
-- otherwise some. `told` says what a sink tells.
pub record HaveTicked {S : Type 0} (told : S
    → SinkTold) (job : Job) (way : Way) (old new : List (ClockEngine S)) (run : RunEnd) : Type 0 where
  pub all : run.end ≡ Done
      → RanAll told (setting_by job) job.ready.clocks.running job.ticks way old new run.counts.items run.logs.items
  pub some : RanSome told (setting_by job) job.ready.clocks.running job.ticks way old new run.end

-- The outputs of a job were opened on this shelf, and the ticks may begin: the engines hold the sinks, with their
-- headers, and keep marks of tracks just if cue files are wanted. `order` has the clock of each output, and the lists
-- of sinks in `groups` are empty. `told` says what a sink tells.
pub record HaveOpened {O : Type 0} (told : O → SinkTold) (shelf : ShelfTold) (job : Job)
    (order : List ℕ) (groups : List (List (OutputSink O))) (engines : List (ClockEngine (OutputSink O))) : Type 0 where
  pub opened : AreOpened told shelf (setting_by job) job.ready.clocks job.ticks order engines groups
  pub ready : AreReady (output_told told) job engines
  pub keeping : AreKeeping job.cues engines

-- The outputs of a job were created on a shelf, from `old` to `new`, and nothing else was done there: no file was
-- changed and none was closed.
pub record OnlyOpened (job : Job) (old new : ShelfTold) : Type 0 where
  pub files_kept : new.files ≡ old.files
  pub made : new.created ≡ after_making (names_in job.plan.sinks) old.created
  pub closed_kept : new.closed ≡ old.closed
  pub reads_grew : old.reads ≤ new.reads
  pub writes_grew : old.writes ≤ new.writes

-- A rendering may go on to close its outputs: they were opened on this shelf, and then the engines made their ticks in
-- this way. `order` has the clock of each output, `groups` has an empty list of sinks for each clock, and `run` says
-- how the ticks ended. `told` says what a sink tells.
pub record MayClose {O : Type 0} (told : O → SinkTold) (shelf : ShelfTold) (job : Job) (way : Way)
    (order : List ℕ) (groups : List (List (OutputSink O))) (engines : List (ClockEngine (OutputSink O)))
    (run : RunEnd) : Type 0 where
  pub fresh : List (ClockEngine (OutputSink O))
  pub opened : HaveOpened told shelf job order groups fresh
  pub ticked : HaveTicked (output_told told) job way fresh engines run
