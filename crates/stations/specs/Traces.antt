-- What a run leaves as a trace.
use Rattle.std.specs.Prelude.{ℕ, List, [], ◌∷◌, ◌++◌, Option, Some, None}
use Rattle.run_records.specs.Records.{Run}
use Rattle.trace_log.specs.Texts.{trace_text}
use Rattle.trace_log.specs.Values.{TraceValue}
use Rattle.trace_records.specs.Traces.{trace_of}
use Rattle.stations.specs.Cues.{cue_files}
use Rattle.stations.specs.Outputs.{OutputFile}
use Rattle.stations.specs.Stations.{Station, Way, InRounds, InWindows, Again}
use Rattle.stations.specs.Streams.{output_files}

-- the file of a trace, alone in a list, where it has a name
abbrev pub traced : (name : Option (List ℕ)) → TraceValue → List OutputFile
traced None trace = []
traced (Some name) trace = record { name = name; bytes = trace_text trace } ∷ []

-- the file of the trace, where a run by threads is to leave one; no other way leaves a trace
abbrev pub traces_in : Way → Station → Run → List OutputFile
traces_in InRounds station run = []
traces_in (InWindows window) station run = traced station.trace (trace_of window station.ticks run)
traces_in (Again trace) station run = []

-- the file of the trace that a run leaves, if one is wanted
abbrev pub traces_of : Station → Run → List OutputFile
traces_of station run = traces_in station.way station run

-- the files that a run writes after its outputs: their cue files, and then the trace
abbrev pub later_files : Station → Run → List OutputFile
later_files station run = cue_files station run ++ traces_of station run

-- all files that a run writes: the outputs in sink order, their cue files, and then the trace
abbrev pub files_of : Station → Run → List OutputFile
files_of station run = output_files station run ++ later_files station run
