-- The verdict of a call on its words and the files.
use Rattle.std.specs.Prelude.{◌≡◌, ◌⊎◌, ◌||◌, ◌&&◌, ℕ, ◌-◌, Bool, true, false, List, [], ◌∷◌, Option, None, Some, codes, if◌then◌else◌}
use Rattle.std.specs.FinMap.{from_entries}
use Rattle.std.specs.List.{list_any}
use Rattle.std.specs.Option.{option_or}
use Rattle.std.specs.Str.{bytes_eq}
use Rattle.liq_base.specs.Files.{Files, file_at}
use Rattle.frame_core.specs.Library.{Sounds}
use Rattle.plan_core.specs.declared.plan.Plan.{Plan}
use Rattle.plan_core.specs.declared.sink.SinkPlan.{SinkPlan}
use Rattle.plan_core.specs.declared.sink.SinkPlan.TheVariants.{Output, Feed}
use Rattle.clock_infer.specs.declared.clock_map.ClockMap.{ClockMap}
use Rattle.script_plan.specs.declared.fault.ScriptFault.{ScriptFault}
use Rattle.script_plan.specs.Plans.{IsPlan, IsPlanFault}
use Rattle.stations.specs.declared.fault.StationFault.{StationFault}
use Rattle.stations.specs.Cues.{cue_name}
use Rattle.stations.specs.Stations.{Station, Way, InRounds, InWindows}
use Rattle.stations.specs.Findings.{IsRenderable, IsStationFault}
use Rattle.trace_records.specs.Traces.{base_of}
use Rattle.refusal_lines.specs.declared.fault.Fault.{Fault}
use Rattle.refusal_lines.specs.declared.fault.Fault.TheVariants.{NoScript, Script, SameFile}
use Rattle.refusal_lines.specs.declared.replay_lines.ReplayFault.{ReplayFault}
use Rattle.workload_gen.specs.Files.{workload}
use Rattle.station_jobs.specs.Replays.{IsReplayFault, IsWayOf}
use Rattle.station_jobs.specs.Words.{Asked, Check, Make, Render, Rendering, Replay, IsAsked, HasNoForm, rendering_by, rendering_of}

-- What a call comes to, before anything is rendered: the usage line, a refusal for the first fault, or an accepted
-- script as a station, which is to be checked, rendered, or rendered and summed up over the files of a workload.
pub data Verdict : Type 0 where
  Usage : Verdict
  Refused : Fault → Verdict
  Checked : Station → Verdict
  Accepted : Station → Verdict
  Made : Files → Station → Verdict

-- The line that a call prints if its words have no form: it shows the four forms.
abbrev pub usage_line : List ℕ
usage_line = codes "usage: check FILE | render FILE N [--one-thread] [--window=W] [--start=D:HH:MM:SS] [--trace=NAME] [--cues] | make SEED SIZE | replay FILE N TRACE [--start=D:HH:MM:SS]\n"

-- The script in `file` is among these files, and evaluates to this plan.
pub record HasPlan (files : Files) (file : List ℕ) (plan : Plan) : Type 0 where
  pub script : List ℕ
  pub there : file_at files file ≡ Some script
  pub is_plan : IsPlan script plan

-- The script in `file` is among these files, and has no plan, for this fault in its text, types or evaluation.
pub record HasPlanFault (files : Files) (file : List ℕ) (fault : ScriptFault) : Type 0 where
  pub script : List ℕ
  pub there : file_at files file ≡ Some script
  pub is_fault : IsPlanFault script fault

-- Whether a sink of the plan is an output to the file of this name. A feed, which puts into a buffer, writes no file.
abbrev pub has_name : (name : List ℕ) → SinkPlan → Bool
has_name name (Output own node fallible wide) = bytes_eq own name
has_name name (Feed buffer node) = false

-- The name of the cue file of this sink, where one of `all` sinks is an output to a file of that name: the cue file
-- would overwrite it. Else `None`.
abbrev pub cue_clash_at : (all : List SinkPlan) → SinkPlan → Option (List ℕ)
cue_clash_at all (Output name node fallible wide) = if list_any (has_name (cue_name name)) all then Some (cue_name name)
    else None
cue_clash_at all (Feed buffer node) = None

-- The name of the first cue file of these sinks that would overwrite an output among `all` sinks, if there is one.
abbrev pub first_cue_clash : (all : List SinkPlan) → List SinkPlan → Option (List ℕ)
first_cue_clash all [] = None
first_cue_clash all (sink ∷ sinks) = option_or (cue_clash_at all sink) (first_cue_clash all sinks)

-- The name of the first cue file of a plan that would overwrite an output; none where no cue files are wanted.
abbrev pub cue_clash : Plan → (cues : Bool) → Option (List ℕ)
cue_clash plan false = None
cue_clash plan true = first_cue_clash plan.sinks plan.sinks

-- Whether this sink of the plan makes a file of this name: an output to it does, and, where cue files are wanted
-- (`cues`), an output whose cue file has this name.
abbrev pub writes_to : (name : List ℕ) (cues : Bool) → SinkPlan → Bool
writes_to name cues (Output own node fallible wide) = bytes_eq own name || (cues && bytes_eq name (cue_name own))
writes_to name cues (Feed buffer node) = false

-- The name of the trace file, where one is wanted and an output or a cue file of the plan would have the same name.
abbrev pub trace_clash : Plan → (trace : Option (List ℕ)) (cues : Bool) → Option (List ℕ)
trace_clash plan None cues = None
trace_clash plan (Some name) cues = if list_any (writes_to name cues) plan.sinks then Some name else None

-- The first file name that a rendering of the plan would write twice: that of a cue file and an output, in the order of
-- the sinks; then that of the trace and another file.
abbrev pub clash_of : Plan → (trace : Option (List ℕ)) (cues : Bool) → Option (List ℕ)
clash_of plan trace cues = option_or (cue_clash plan cues) (trace_clash plan trace cues)

-- A rendering is refused because it would write two files of one name. The script in its file has a plan, and `name` is
-- the first such name.
pub record HasClash (files : Files) (rendering : Rendering) (name : List ℕ) : Type 0 where
  pub plan : Plan
  pub has_plan : HasPlan files rendering.file plan
  pub clash : clash_of plan rendering.trace rendering.cues ≡ Some name

-- A rendering is refused for a fault of its plan, such as missing audio or clashing clocks. The script has a plan, no
-- two of its files would have one name, and `fault` is why the plan cannot be rendered for the ticks that are asked
-- for.
pub record HasUnfitPlan (files : Files) (rendering : Rendering) (fault : StationFault) : Type 0 where
  pub plan : Plan
  pub has_plan : HasPlan files rendering.file plan
  pub apart : clash_of plan rendering.trace rendering.cues ≡ None
  pub is_fault : IsStationFault files plan rendering.ticks fault

-- This is the first fault of the script of a rendering: its file is not there, it has no plan, it would write a name
-- twice, or its plan does not fit its files and clocks. Faults of a trace are not among these.
abbrev pub IsScriptFault : Files → Rendering → Fault → Type 0
IsScriptFault files rendering NoScript = file_at files rendering.file ≡ None
IsScriptFault files rendering (Script fault) = HasPlanFault files rendering.file fault
IsScriptFault files rendering (SameFile name) = HasClash files rendering name
IsScriptFault files rendering (Fault.Station fault) = HasUnfitPlan files rendering fault
IsScriptFault files rendering (Fault.Replay fault) = ⊥

-- The script of a rendering is accepted: it has this plan, its outputs, cue files and trace have different names, and
-- its audio files (`library`) and clocks are these.
pub record IsPrepared (files : Files) (rendering : Rendering) (plan : Plan) (library : Sounds) (clocks : ClockMap) : Type
    0 where
  pub has_plan : HasPlan files rendering.file plan
  pub apart : clash_of plan rendering.trace rendering.cues ≡ None
  pub renderable : IsRenderable files plan rendering.ticks library clocks

-- A replay is refused: its script is accepted, but the trace in the file named `trace` is missing or does not fit it,
-- which `fault` says.
pub record HasUntold (files : Files) (rendering : Rendering) (trace : List ℕ) (fault : Fault) : Type 0 where
  pub plan : Plan
  pub library : Sounds
  pub clocks : ClockMap
  pub prepared : IsPrepared files rendering plan library clocks
  pub untold : ReplayFault
  pub fault_is : fault ≡ Fault.Replay untold
  pub is_fault : IsReplayFault files trace (base_of plan library clocks rendering.start) clocks.running rendering.ticks
      untold

-- This is the fault of the trace of a replay whose script is accepted. A call that asks for no replay has no such
-- fault.
abbrev pub IsTraceFault : Asked → Files → Fault → Type 0
IsTraceFault (Check file) files fault = ⊥
IsTraceFault (Render rendering window) files fault = ⊥
IsTraceFault (Make seed size) files fault = ⊥
IsTraceFault (Replay file start ticks trace) files fault = HasUntold files
    (rendering_by file start ticks None false) trace fault

-- How a rendering makes its ticks: by threads, in windows of so many ticks; where no window is given, in rounds of all
-- clocks on one thread.
abbrev pub way_in : (window : Option ℕ) → Way
way_in None = InRounds
way_in (Some window) = InWindows window

-- How the ticks of an accepted script are made, by what is asked. A check, which has no tick, is in rounds on one
-- thread. A rendering is made as its options say, a workload by threads in windows of 16 ticks, and a replay as its
-- trace tells.
abbrev pub IsWayFor : Asked → Files → Plan → Sounds → ClockMap → Way → Type 0
IsWayFor (Check file) files plan library clocks way = way ≡ InRounds
IsWayFor (Render rendering window) files plan library clocks way = way ≡ way_in window
IsWayFor (Make seed size) files plan library clocks way = way ≡ InWindows 16
IsWayFor (Replay file start ticks trace) files plan library clocks way = IsWayOf files trace
    (base_of plan library clocks start) clocks.running ticks way

-- The station of a rendering, which is all that its run rests on: the plan, its audio files and clocks, the start, the
-- number of ticks, how they are made, and whether a trace and cue files are wanted.
abbrev pub station_for : Rendering → Plan → Sounds → ClockMap → Way → Station
station_for rendering plan library clocks way = record {
  plan = plan;
  library = library;
  clocks = clocks;
  start = rendering.start;
  ticks = rendering.ticks;
  way = way;
  trace = rendering.trace;
  cues = rendering.cues;
}

-- The script of a call is accepted, and `station` has all that its run rests on: the plan with its audio files and
-- clocks, how its ticks are made, and the start, ticks, trace and cue files that are asked for.
pub record IsStation (asked : Asked) (files : Files) (station : Station) : Type 0 where
  pub prepared : IsPrepared files (rendering_of asked) station.plan station.library station.clocks
  pub is_way : IsWayFor asked files station.plan station.library station.clocks station.way
  pub rest_is : station ≡ station_for (rendering_of asked) station.plan station.library station.clocks station.way

-- The files of the workload that a seed makes: a script and `size` audio files. The same seed and size make the same
-- files.
unfoldable pub files_made : (seed size : ℕ) → Files
files_made seed size = from_entries (workload seed (size - 1))

-- The files over which a call is judged: those of the shelf that it is given, but for a workload those that it makes
-- itself.
abbrev pub files_for : Asked → Files → Files
files_for (Check file) files = files
files_for (Render rendering window) files = files
files_for (Make seed size) files = files_made seed size
files_for (Replay file start ticks trace) files = files

-- The verdict on a call whose script is accepted as this station: it is checked, rendered, or rendered and summed up
-- over the files of a workload.
abbrev pub verdict_for : Asked → Station → Verdict
verdict_for (Check file) station = Checked station
verdict_for (Render rendering window) station = Accepted station
verdict_for (Make seed size) station = Made (files_made seed size) station
verdict_for (Replay file start ticks trace) station = Accepted station

-- The first fault for which a call is refused: one of its script, or, if that is accepted, one of the trace of a
-- replay.
abbrev pub IsRefusal : Asked → Files → Fault → Type 0
IsRefusal asked files fault =
    IsScriptFault (files_for asked files) (rendering_of asked) fault ⊎ IsTraceFault asked files fault

-- This is the verdict on what a call asks for, over these files: a refusal for its first fault, or the station of its
-- accepted script.
abbrev pub IsVerdictOn : Asked → Files → Verdict → Type 0
IsVerdictOn asked files verdict =
    ((fault : Fault) × (verdict ≡ Refused fault) × IsRefusal asked files fault)
    ⊎ ((station : Station) × (verdict ≡ verdict_for asked station) × IsStation asked (files_for asked files) station)

-- The words of a call have one of the forms of the usage line, and `verdict` is the verdict on what they ask for over
-- these files.
pub record IsFormed (words : List (List ℕ)) (files : Files) (verdict : Verdict) : Type 0 where
  pub asked : Asked
  pub is_asked : IsAsked words asked
  pub is_verdict : IsVerdictOn asked files verdict

-- This is the verdict on the words of a call over these files: the usage line if they have none of its forms, and else
-- the verdict on what they ask for.
abbrev pub IsVerdict : List (List ℕ) → Files → Verdict → Type 0
IsVerdict words files verdict = ((verdict ≡ Usage) × HasNoForm words) ⊎ IsFormed words files verdict

-- The words of a call over these files have one verdict and no other, and the statement P holds of this verdict.
pub record ForVerdict (words : List (List ℕ)) (files : Files) (P : Verdict → Type 0) : Type 0 where
  pub verdict : Verdict
  pub is_verdict : IsVerdict words files verdict
  pub only : (other : Verdict) → IsVerdict words files other → other ≡ verdict
  pub holds : P verdict

-- The statement P holds of each verdict that the words of a call may have over these files.
abbrev pub ForEachVerdict : List (List ℕ) → Files → (Verdict → Type 0) → Type 0
ForEachVerdict words files P = (verdict : Verdict) → IsVerdict words files verdict → P verdict
