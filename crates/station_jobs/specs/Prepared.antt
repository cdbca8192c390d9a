-- What is found of a script before anything is rendered. Only what is private cites this.
use Rattle.std.specs.Prelude.{◌≡◌, ◌⊎◌, ℕ, true, false, List, Result, Ok, Err, Option, None, Some, String, IsErrOf, string_bytes}
use Rattle.std.specs.Option.{ForSome}
use Rattle.std.specs.declared.alloc.Global.{Global}
use Rattle.liq_base.specs.Counts.{Rose}
use Rattle.liq_base.specs.Files.{Files}
use Rattle.liq_base.specs.Shelves.{OnlyRead, ShelfTold}
use Rattle.frame_core.specs.Library.{Sounds}
use Rattle.plan_core.specs.declared.plan.Plan.{Plan}
use Rattle.clock_infer.specs.declared.clock_map.ClockMap.{ClockMap}
use Rattle.script_plan.specs.declared.fault.ScriptFault.{ScriptFault}
use Rattle.script_plan.specs.declared.fault.ScriptFault.TheVariants as script_fault
use Rattle.stations.specs.Stations.{Station, Way}
use Rattle.stream_meaning.specs.Instants.{Setting}
use Rattle.station_check.specs.declared.halt.CheckEnd.{CheckEnd}
use Rattle.station_check.specs.declared.halt.CheckEnd.TheVariants.{Refused as check_refused, Read as check_read, Memory as check_memory}
use Rattle.station_render.specs.declared.fault.RenderFault.{RenderFault}
use Rattle.station_render.specs.declared.fault.RenderFault.TheVariants.{Write as render_write, Memory as render_memory}
use Rattle.station_render.specs.Runs.{name_in}
use Rattle.station_render.specs.declared.job.Job.{Job}
use Rattle.refusal_lines.specs.declared.fault.Fault.{Fault}
use Rattle.refusal_lines.specs.declared.fault.Fault.TheVariants.{SameFile, Script}
use Rattle.refusal_lines.specs.declared.replay_lines.ReplayFault.{ReplayFault}
use Rattle.station_jobs.specs.Words.{Asked, Rendering, rendering_by, rendering_of}
use Rattle.station_jobs.specs.Verdicts.{Verdict, Refused, Accepted, IsScriptFault, IsVerdictOn, IsPrepared, IsRefusal, IsWayFor, files_for, station_for, verdict_for}
use Rattle.station_jobs.specs.Replays.{IsReplayFault}
use Rattle.station_jobs.specs.Jobs.{IsBroken, IsDone, IsStarved}
use Rattle.station_jobs.specs.declared.halt.CallEnd.{CallEnd}
use Rattle.station_jobs.specs.declared.halt.CallEnd.TheVariants.{Read, Write, Memory, Refused as refused_for}

-- What reading a script comes to: its plan with the audio files and the clocks of the plan, or the fault for which it
-- is refused.
pub data Outcome : Type 0 where
  Found : Plan → Sounds → ClockMap → Outcome
  Lost : Fault → Outcome

-- What reading the script of a rendering comes to over these files: it is accepted with this plan, these audio files
-- and clocks, or this is its first fault.
abbrev pub IsOutcome : Files → Rendering → Outcome → Type 0
IsOutcome files rendering (Found plan library clocks) = IsPrepared files rendering plan library clocks
IsOutcome files rendering (Lost fault) = IsScriptFault files rendering fault

-- The decision on what a call asks for: granted, with a plan, its audio files and clocks, and the way to render it (by
-- threads, in rounds on one thread, or as a trace tells); or denied for a fault.
pub data Ruling : Type 0 where
  Granted : Plan → Sounds → ClockMap → Way → Ruling
  Denied : Fault → Ruling

-- What a call asks for is granted: its script is accepted with this plan, these audio files and clocks, and it is
-- rendered in this way (by threads, in rounds, or as a trace tells).
pub record IsGranted (asked : Asked) (files : Files) (plan : Plan) (library : Sounds) (clocks : ClockMap)
    (way : Way) : Type 0 where
  pub prepared : IsPrepared files (rendering_of asked) plan library clocks
  pub is_way : IsWayFor asked files plan library clocks way

-- This is the decision on what a call asks for, over these files: it is granted with this plan, its audio files, its
-- clocks and the way to render it, or denied for its first fault.
abbrev pub IsRuling : Asked → Files → Ruling → Type 0
IsRuling asked files (Granted plan library clocks way) = IsGranted asked (files_for asked files) plan library clocks way
IsRuling asked files (Denied fault) = IsRefusal asked files fault

-- This is the decision on what a call asks for, and there is no other.
pub record IsOneRuling (asked : Asked) (files : Files) (ruling : Ruling) : Type 0 where
  pub holds : IsRuling asked files ruling
  pub only : (other : Ruling) → IsRuling asked files other → other ≡ ruling

-- The verdict of a decision: a refusal for its fault, or the station that is made of its plan, audio files, clocks and
-- way.
abbrev pub verdict_of : Asked → Ruling → Verdict
verdict_of asked (Denied fault) = Refused fault
verdict_of asked (Granted plan library clocks way) = verdict_for asked
    (station_for (rendering_of asked) plan library clocks way)

-- Reading the script of a rendering comes to this outcome, and to no other: the plan with its parts, or the first
-- fault.
pub record IsOneOutcome (files : Files) (rendering : Rendering) (outcome : Outcome) : Type 0 where
  pub holds : IsOutcome files rendering outcome
  pub only : (other : Outcome) → IsOutcome files rendering other → other ≡ outcome

-- What reading the script of a job came to, where the job is ready to run: its plan, with its audio files and clocks.
abbrev pub outcome_of : Job → Outcome
outcome_of job = Found job.plan job.ready.library job.ready.clocks

-- A check, which renders no tick, accepts the script in `file`: reading it comes to this plan and these clocks, with
-- some audio files, and to nothing else.
pub record IsChecked (files : Files) (file : List ℕ) (plan : Plan) (clocks : ClockMap) : Type 0 where
  pub library : Sounds
  pub one : IsOneOutcome files (rendering_by file 0 0 None false) (Found plan library clocks)

-- What the error of a step says that only reads the script of a rendering. A fault is the one to which the script
-- comes. After a failed read the shelf's count of failed reads is higher in `new` than in `old`. No write failed.
pub record EndsFor {T : Type 0} (rendering : Rendering) (old new : ShelfTold) (result : Result T CallEnd) : Type 0 where
  pub fault : (fault : Fault) → result ≡ Err (refused_for fault)
      → ForSome old.files (λ files. IsOneOutcome files rendering (Lost fault))
  pub read : IsErrOf result Read → Rose old.reads new.reads
  pub no_write : IsErrOf result Write → ⊥

-- A replay is refused for this fault of its trace, the file named `name`: it cannot be replayed over N ticks of so many
-- clocks. `base` is the plan with its audio files and start.
pub record HasFaultOf (files : Files) (name : List ℕ) (base : Setting) (clocks N : ℕ) (fault : Fault) : Type 0 where
  pub untold : ReplayFault
  pub fault_is : fault ≡ Fault.Replay untold
  pub is_fault : IsReplayFault files name base clocks N untold

-- What the error of reading the trace of this name says. A fault is one that the trace has over N ticks of so many
-- clocks. After a failed read the shelf's count of failed reads is higher in `new` than in `old`. No write failed.
-- `base` is the plan with its audio files and start.
pub record TraceEnds {T : Type 0} (name : List ℕ) (base : Setting) (clocks N : ℕ) (old new : ShelfTold)
    (result : Result T CallEnd) : Type 0 where
  pub fault : (fault : Fault) → result ≡ Err (refused_for fault)
      → ForSome old.files (λ files. HasFaultOf files name base clocks N fault)
  pub read : IsErrOf result Read → Rose old.reads new.reads
  pub no_write : IsErrOf result Write → ⊥

-- Why a replay ended (the `CallEnd`) whose trace has this fault: for the fault itself, or because there was no memory
-- to tell it.
abbrev pub IsUntold : ReplayFault → CallEnd → Type 0
IsUntold fault halt = (halt ≡ refused_for (Fault.Replay fault)) ⊎ (halt ≡ Memory)

-- What the result says of a test whether a rendering writes two files of one name. A fault says that it does, and names
-- the first such name, which is `clash`. No read and no write failed.
pub record ClashEnds {T : Type 0} (clash : Option (List ℕ)) (result : Result T CallEnd) : Type 0 where
  pub fault : (fault : Fault) → result ≡ Err (refused_for fault)
      → (name : List ℕ) × (fault ≡ SameFile name) × (clash ≡ Some name)
  pub no_read : IsErrOf result Read → ⊥
  pub no_write : IsErrOf result Write → ⊥

-- What is asked for has one verdict over these files and no other, and the statement P holds of this verdict.
pub record ForOne (asked : Asked) (files : Files) (P : Verdict → Type 0) : Type 0 where
  pub verdict : Verdict
  pub is_verdict : IsVerdictOn asked files verdict
  pub only : (other : Verdict) → IsVerdictOn asked files other → other ≡ verdict
  pub holds : P verdict

-- The statement P holds of each verdict that what is asked for may have over these files.
abbrev pub ForEach : Asked → Files → (Verdict → Type 0) → Type 0
ForEach asked files P = (verdict : Verdict) → IsVerdictOn asked files verdict → P verdict

-- If the shelf tells which files it has, what is asked for has one verdict over them and no other, and P holds of the
-- files and this verdict.
abbrev pub ForOneOf : Asked → ShelfTold → (Files → Verdict → Type 0) → Type 0
ForOneOf asked shelf P = ForSome shelf.files (λ files. ForOne asked files (P files))

-- How a job may end, by what the shelf tells before (`old`) and after it (`new`): with the report of what was done, or
-- with the fault for which it is refused. Or a read failed, and the shelf was only read; or a write failed; or memory
-- was refused.
abbrev pub Ended : (asked : Asked) (old new : ShelfTold) → Result (String Global) CallEnd → Type 0
Ended asked old new (Ok report) = ForOneOf asked old
    (λ files verdict. IsDone verdict files old new (string_bytes report))
Ended asked old new (Err (refused_for fault)) = ForOneOf asked old (λ files verdict. verdict ≡ Refused fault)
    × OnlyRead old new
Ended asked old new (Err Read) = Rose old.reads new.reads × OnlyRead old new
Ended asked old new (Err Write) = Rose old.writes new.writes
    × ForOneOf asked old (λ files verdict. IsBroken verdict true files old new)
Ended asked old new (Err Memory) = ForSome old.files
    (λ files. ForEach asked files (λ verdict. IsStarved verdict files old new))

-- The job, ready to run, is the one for this rendering: both have the same start, number of ticks and name of a trace,
-- if one is wanted, and both want cue files or neither does.
pub record IsJobFor (rendering : Rendering) (job : Job) : Type 0 where
  pub start_is : rendering.start ≡ job.start.second
  pub ticks_are : rendering.ticks ≡ job.ticks
  pub trace_is : rendering.trace ≡ name_in job
  pub cues_are : rendering.cues ≡ job.cues

-- What a call asks for is a rendering or a replay, which write outputs to the shelf: its verdict, if its script is
-- accepted, is to render the station.
abbrev pub IsToRender : Asked → Type 0
IsToRender asked = (station : Station) → verdict_for asked station ≡ Accepted station

-- The decision to render the plan of a job, with its audio files and clocks, in this way (by threads, in rounds, or as
-- a trace tells).
abbrev pub granted : Job → Way → Ruling
granted job way = Granted job.plan job.ready.library job.ready.clocks way

-- Why a call ends whose script has no plan: a refusal for the fault of its text, types or evaluation; or want of
-- memory.
abbrev pub halt_of_script : ScriptFault → CallEnd
halt_of_script (script_fault.Lex fault) = refused_for (Script (script_fault.Lex fault))
halt_of_script (script_fault.Parse fault) = refused_for (Script (script_fault.Parse fault))
halt_of_script (script_fault.Type fault) = refused_for (Script (script_fault.Type fault))
halt_of_script (script_fault.Eval fault) = refused_for (Script (script_fault.Eval fault))
halt_of_script script_fault.Memory = Memory

-- Why a call ends whose plan failed its check: a refusal for the fault of the plan, a failed read of an audio file, or
-- want of memory.
abbrev pub halt_of_check : CheckEnd → CallEnd
halt_of_check (check_refused fault) = refused_for (Fault.Station fault)
halt_of_check check_read = Read
halt_of_check check_memory = Memory

-- Why a call ends whose rendering broke off: a failed write, or want of memory.
abbrev pub halt_of_render : RenderFault → CallEnd
halt_of_render render_write = Write
halt_of_render render_memory = Memory
