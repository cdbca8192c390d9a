-- The cue files of a station: where the tracks of each output begin, and their names.
use Rattle.std.specs.Prelude.{ℕ, Bool, true, false, List, [], ◌∷◌, ◌++◌, Option, Some, None, codes, decimal}
use Rattle.std.specs.List.{flat_map}
use Rattle.frame_core.specs.Library.{Sounds, title_name}
use Rattle.plan_core.specs.declared.sink.SinkPlan.{SinkPlan}
use Rattle.plan_core.specs.declared.sink.SinkPlan.TheVariants.{Output, Feed}
use Rattle.stream_meaning.specs.Instants.{Setting}
use Rattle.stream_meaning.specs.Sinks.{Cue, cues}
use Rattle.run_records.specs.Records.{Run}
use Rattle.stations.specs.Outputs.{OutputFile}
use Rattle.stations.specs.Stations.{Station, setting_of_run}

-- the end of a line of a cue file: a space and the name that a title stands for; nothing for no title
abbrev pub spaced : Option (List ℕ) → List ℕ
spaced None = []
spaced (Some name) = codes " " ++ name

-- the line of a cue file for the beginning of one track: the number of its sample, and the name of its title
abbrev pub cue_line : Sounds → Cue → List ℕ
cue_line library cue = decimal cue.at ++ spaced (title_name library cue.title) ++ codes "\n"

-- the text of a cue file: one line for each beginning of a track
abbrev pub cue_text : Sounds → List Cue → List ℕ
cue_text library marks = flat_map (cue_line library) marks

-- of each output among these sinks, the marks where its tracks begin in so many ticks
abbrev pub marks_in : Setting → (ticks : ℕ) → List SinkPlan → List (List Cue)
marks_in setting ticks [] = []
marks_in setting ticks (Output name node fallible wide ∷ sinks) = cues setting node ticks ∷ marks_in setting ticks sinks
marks_in setting ticks (Feed buffer node ∷ sinks) = marks_in setting ticks sinks

-- of each output among these sinks, the marks where its tracks begin, if cue files are wanted; and none otherwise
abbrev pub marks_if : (wanted : Bool) → Setting → (ticks : ℕ) → List SinkPlan → List (List Cue)
marks_if false setting ticks sinks = []
marks_if true setting ticks sinks = marks_in setting ticks sinks

-- of each output of the station, the marks where its tracks begin, which a run keeps for the cue files
abbrev pub marks_of : Station → Run → List (List Cue)
marks_of station run = marks_if station.cues (setting_of_run station run) station.ticks station.plan.sinks

-- the name of the cue file of an output: the name of its own file with `.cue` behind it
abbrev pub cue_name : List ℕ → List ℕ
cue_name name = name ++ codes ".cue"

-- the cue files of the outputs among these sinks, in their order
abbrev pub cues_in : Setting → (ticks : ℕ) → List SinkPlan → List OutputFile
cues_in setting ticks [] = []
cues_in setting ticks (Output name node fallible wide ∷ sinks) =
    record {
      name = cue_name name;
      bytes = cue_text setting.library (cues setting node ticks);
    } ∷ cues_in setting ticks sinks
cues_in setting ticks (Feed buffer node ∷ sinks) = cues_in setting ticks sinks

-- the cue files of the outputs among these sinks if they are wanted, and none otherwise
abbrev pub cues_if : (wanted : Bool) → Setting → (ticks : ℕ) → List SinkPlan → List OutputFile
cues_if false setting ticks sinks = []
cues_if true setting ticks sinks = cues_in setting ticks sinks

-- the cue files that a run of the station writes, with their names and bytes
abbrev pub cue_files : Station → Run → List OutputFile
cue_files station run = cues_if station.cues (setting_of_run station run) station.ticks station.plan.sinks

-- the names of the cue files of the outputs among these sinks, in their order
abbrev pub cue_names_in : List SinkPlan → List (List ℕ)
cue_names_in [] = []
cue_names_in (Output name node fallible wide ∷ sinks) = cue_name name ∷ cue_names_in sinks
cue_names_in (Feed buffer node ∷ sinks) = cue_names_in sinks

-- the names of the cue files of the outputs among these sinks if they are wanted, and none otherwise
abbrev pub cue_names_if : (wanted : Bool) → List SinkPlan → List (List ℕ)
cue_names_if false sinks = []
cue_names_if true sinks = cue_names_in sinks
