-- The names under which a rendering creates its files, in order, and what a shelf tells of them.
use Rattle.std.specs.Prelude.{◌≡◌, ℕ, suc, ◌+◌, ◌%◌, List, [], ◌∷◌, ◌++◌, length, Option, Some, None, map}
use Rattle.std.specs.Option.{ForSome}
use Rattle.liq_base.specs.Shelves.{Closing, ShelfTold, without_faults}
use Rattle.plan_core.specs.declared.sink.SinkPlan.{SinkPlan}
use Rattle.plan_core.specs.declared.sink.SinkPlan.TheVariants.{Output, Feed}
use Rattle.run_records.specs.Records.{Run}
pub use Rattle.stations.specs.Outputs.{HaveClosed, after_making}
use Rattle.stream_meaning.specs.Instants.{Setting}
use Rattle.stations.specs.Outputs.{OutputFile}
use Rattle.stations.specs.Stations.{Station, Way, InRounds, InWindows, Again, setting_of_run}
use Rattle.stations.specs.Streams.{body_size, file_bytes}
use Rattle.stations.specs.Cues.{cue_names_if}
use Rattle.stations.specs.Traces.{files_of, later_files}

-- the names of the files of the outputs among these sinks, in their order
abbrev pub names_in : List SinkPlan → List (List ℕ)
names_in [] = []
names_in (Output name node fallible wide ∷ sinks) = name ∷ names_in sinks
names_in (Feed buffer node ∷ sinks) = names_in sinks

-- the name of the file for a trace as a list of one name; an empty list if none is wanted
abbrev pub trace_names : Option (List ℕ) → List (List ℕ)
trace_names None = []
trace_names (Some name) = name ∷ []

-- the name of the trace, where a run by threads is to leave one; no other way leaves a trace
abbrev pub trace_names_in : Way → (name : Option (List ℕ)) → List (List ℕ)
trace_names_in InRounds name = []
trace_names_in (InWindows window) name = trace_names name
trace_names_in (Again trace) name = []

-- the names of all files of a rendering: of the outputs in sink order, then of their cue files, and then of the trace
abbrev pub names_of : Station → List (List ℕ)
names_of station = names_in station.plan.sinks
    ++ (cue_names_if station.cues station.plan.sinks ++ trace_names_in station.way station.trace)

-- the names under which a rendering creates its files are those of the files that a run writes
abbrev pub AreNamesOfFiles : Station → Run → Type 0
AreNamesOfFiles station run = map (λ file. file.name) (files_of station run) ≡ names_of station

-- Of the files of these names the first ones alone were created, one after another, maybe none and maybe all; and the
-- sink of each was closed, in that order, and no other. `old` and `new` are what the shelf told before and after.
pub record CreatedFront (names : List (List ℕ)) (old new : ShelfTold) : Type 0 where
  pub made : List (List ℕ)
  pub others : List (List ℕ)
  pub names_are : names ≡ made ++ others
  pub told : new.created ≡ after_making made old.created
  pub closed : HaveClosed 0 made old.closed new.closed

-- what a shelf lists of the outputs among these sinks, of which all ticks were made, once they are closed: the name of
-- each; that it was created for just the bytes of its file, and holds as many; and its pieces, which are its header,
-- one for each tick, and its last zero byte, if it has one
abbrev pub closings_in : Setting → (ticks : ℕ) → List SinkPlan → List Closing
closings_in setting ticks [] = []
closings_in setting ticks (Output name node fallible wide ∷ sinks) =
    record {
      name = name;
      room = length (file_bytes setting wide ticks node);
      bytes = length (file_bytes setting wide ticks node);
      pieces = suc ticks + body_size setting wide ticks node % 2;
      faults = 0;
    } ∷ closings_in setting ticks sinks
closings_in setting ticks (Feed buffer node ∷ sinks) = closings_in setting ticks sinks

-- how many pieces a file has that is written at once: one, or none if it is empty
abbrev pub pieces_of : (bytes : List ℕ) → ℕ
pieces_of [] = 0
pieces_of (byte ∷ bytes) = 1

-- what a shelf lists of a file that was created for just its bytes and written at once
abbrev pub closing_at_once : OutputFile → Closing
closing_at_once file = record {
  name = file.name;
  room = length file.bytes;
  bytes = length file.bytes;
  pieces = pieces_of file.bytes;
  faults = 0;
}

-- what a shelf lists of all files of a run, once they are closed: of its outputs, then of its cue files, and then of
-- its trace
abbrev pub closings_of : Station → Run → List Closing
closings_of station run =
    closings_in (setting_of_run station run) station.ticks station.plan.sinks
    ++ map closing_at_once (later_files station run)

-- after the closings `before`, these came, one after another, and no other; how often their sinks had failed is left
-- open
pub record AreListed (closings before : List Closing) (after : Option (List Closing)) : Type 0 where
  pub more : List Closing
  pub same : map without_faults more ≡ closings
  pub told : after ≡ Some (before ++ more)

-- if the shelf tells its closings, these came, one after another, and no other
abbrev pub HaveListed : List Closing → (before after : Option (List Closing)) → Type 0
HaveListed closings before after = ForSome before (λ told. AreListed closings told after)
