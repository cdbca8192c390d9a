-- The cue files of a rendering, by the marks that its engines kept.
use Rattle.std.specs.Prelude.{ℕ, Bool, true, false, List, [], ◌∷◌, Vec, map}
use Rattle.std.specs.declared.alloc.Global.{Global}
use Rattle.frame_core.specs.Library.{Sounds}
use Rattle.plan_core.specs.declared.sink.SinkPlan.{SinkPlan}
use Rattle.plan_core.specs.declared.sink.SinkPlan.TheVariants.{Output, Feed}
use Rattle.stream_meaning.specs.Sinks.{Cue}
use Rattle.clock_ticks.specs.declared.cues.CueMark.{CueMark}
use Rattle.stations.specs.Cues.{cue_name, cue_text}
use Rattle.stations.specs.Outputs.{OutputFile}
use Rattle.station_render.specs.Sinks.{lists_of}
use Rattle.station_render.specs.declared.job.Job.{Job}

-- a mark that an engine kept (where a track begins in an output), as an entry of a cue file: its instant and its title
abbrev pub cue_of : CueMark → Cue
cue_of mark = record { at = mark.at; title = mark.title }

-- the cue entries of each output, from the marks that the engines kept of it
abbrev pub cues_of : List (Vec CueMark Global) → List (List Cue)
cues_of marks = map (map cue_of) (lists_of marks)

-- the cue file of the output of this name: its file name, and the text of these cues (instants at which tracks begin,
-- with their titles)
abbrev pub cue_file : Sounds → (name : List ℕ) → List Cue → OutputFile
cue_file library name cues = record { name = cue_name name; bytes = cue_text library cues }

-- The cue files of the outputs among these sinks, in sink order. `marks` has for each output, in turn, its cues: the
-- instants at which tracks begin, with their titles.
abbrev pub cue_files_with : Sounds → List SinkPlan → List (List Cue) → List OutputFile
cue_files_with library [] marks = []
cue_files_with library (Output name node fallible wide ∷ sinks) [] = []
cue_files_with library (Output name node fallible wide ∷ sinks) (cues ∷ marks) = cue_file library name cues
    ∷ cue_files_with library sinks marks
cue_files_with library (Feed buffer node ∷ sinks) marks = cue_files_with library sinks marks

-- The cue files of the outputs among these sinks, if they are wanted; otherwise none. `marks` has the cues of each
-- output: the instants at which tracks begin, with their titles.
abbrev pub cue_files_if : (wanted : Bool) → Sounds → List SinkPlan → List (List Cue) → List OutputFile
cue_files_if false library sinks marks = []
cue_files_if true library sinks marks = cue_files_with library sinks marks

-- the cue files of a job, if it wants them; otherwise none. `marks` has the cues of each output: the instants at which
-- tracks begin, with their titles.
abbrev pub cue_files_by : Job → List (List Cue) → List OutputFile
cue_files_by job marks = cue_files_if job.cues job.ready.library job.plan.sinks marks
