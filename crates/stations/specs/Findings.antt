-- Whether a plan is rendered: its audio files and clocks, or why not. The faults are looked for in the order in which
-- they stand here, and each comes only where the plan has none of those before it.
use Rattle.std.specs.Prelude.{◌≡◌, ◌≢◌, ◌≤◌, ℕ, ◌*◌, ◌^◌, Bool, false, List, [], ◌∷◌, Option, Some, None, Ok, Err, is_none, length, slice_get, if◌then◌else◌}
use Rattle.std.specs.Option.{option_map_or}
use Rattle.liq_base.specs.Files.{Files}
use Rattle.liq_base.specs.declared.memory.Kind.{Kind}
use Rattle.liq_base.specs.declared.memory.Kind.TheVariants.{Stereo}
use Rattle.frame_core.specs.Library.{Sounds, IsLibrary}
use Rattle.plan_core.specs.declared.plan.Plan.{Plan}
use Rattle.plan_core.specs.declared.sink.SinkPlan.{SinkPlan}
use Rattle.plan_core.specs.declared.sink.SinkPlan.TheVariants.{Output, Feed}
use Rattle.plan_core.specs.Plans.{IsWellFormed}
use Rattle.clock_infer.specs.declared.clock_map.ClockMap.{ClockMap}
use Rattle.clock_infer.specs.declared.clock_map.ClockFault.{ClockFault}
use Rattle.clock_infer.specs.Answers.{IsClockMap, IsCause}
use Rattle.fallible_infer.specs.Infallible.{IsMarking, refuses}
use Rattle.wav_io.specs.Header.{header_at}
use Rattle.track_library.specs.declared.rules.Rules.{Rules}
use Rattle.track_library.specs.declared.fault.LoadFault.{LoadFault}
use Rattle.track_library.specs.declared.fault.LoadFault.TheVariants.{Missing, BadAudio, FileTooLarge, AllTooLarge, ReadFault, Memory}
use Rattle.track_library.specs.Singles.{HaveSingles}
use Rattle.track_library.specs.Walk.{load_of}
use Rattle.stations.specs.declared.fault.StationFault.{StationFault}
use Rattle.stations.specs.declared.fault.StationFault.TheVariants.{FallibleOutput, Clocks, OutputTooLong}

-- what may be loaded: files at the rate of the plan, each of at most 2^28 bytes and all of at most 2^32
abbrev pub rules_of : Plan → Rules
rules_of plan = record { rate = plan.rate; file = 2 ^ 28; all = 2 ^ 32 }

-- the name of the file of an output; empty for a feed of a buffer, which has none
abbrev pub sink_name : SinkPlan → List ℕ
sink_name (Output name node fallible wide) = name
sink_name (Feed buffer node) = []

-- the name of the first sink for which `such` holds; None if there is none
abbrev pub first_name : (such : SinkPlan → Bool) → List SinkPlan → Option (List ℕ)
first_name such [] = None
first_name such (sink ∷ sinks) = if such sink then Some (sink_name sink) else first_name such sinks

-- whether the node of this number is mono or stereo; stereo if there is none
abbrev pub node_kind : Plan → (node : ℕ) → Kind
node_kind plan node = option_map_or (λ node. node.kind) (slice_get plan.nodes node) Stereo

-- whether a sink is an output that is too long after so many ticks: its WAV header cannot count the bytes of its file
abbrev pub is_too_long : Plan → (ticks : ℕ) → SinkPlan → Bool
is_too_long plan ticks (Output name node fallible wide) = is_none
    (header_at wide (node_kind plan node) plan.rate (ticks * plan.frame))
is_too_long plan ticks (Feed buffer node) = false

-- loading the audio files of the plan from the files of a shelf gives this library
abbrev pub IsLoaded : Files → Plan → (library : Sounds) → Type 0
IsLoaded files plan library = load_of (rules_of plan) files plan.nodes ≡ Ok library

-- The plan has these audio files, and no output may have gaps that the script does not allow: each has a node that is
-- infallible, or is written with `fallible=true`.
pub record IsSafe (files : Files) (plan : Plan) (library : Sounds) : Type 0 where
  pub loaded : IsLoaded files plan library
  pub mark : ℕ → Bool
  pub marking : IsMarking plan.nodes mark
  pub none : first_name (refuses mark) plan.sinks ≡ None

-- The plan has these audio files and these clocks, and no output that needs an infallible node lacks one.
pub record IsClocked (files : Files) (plan : Plan) (library : Sounds) (clocks : ClockMap) : Type 0 where
  pub safe : IsSafe files plan library
  pub map : IsClockMap plan clocks

-- The plan can be rendered for so many ticks, over these audio files and clocks: no output lacks an infallible node
-- that it needs, and none is too long for its header.
pub record IsRenderable (files : Files) (plan : Plan) (ticks : ℕ) (library : Sounds) (clocks : ClockMap) : Type 0 where
  pub clocked : IsClocked files plan library clocks
  pub sounds : IsLibrary library
  pub none : first_name (is_too_long plan ticks) plan.sinks ≡ None

-- loading the audio files of the plan from the files of a shelf ends at this fault
abbrev pub IsUnloaded : Files → Plan → LoadFault → Type 0
IsUnloaded files plan fault = load_of (rules_of plan) files plan.nodes ≡ Err fault

-- the output of this name is the first that needs an infallible node and has none
pub record IsUnsafe (files : Files) (plan : Plan) (name : List ℕ) : Type 0 where
  pub library : Sounds
  pub loaded : IsLoaded files plan library
  pub mark : ℕ → Bool
  pub marking : IsMarking plan.nodes mark
  pub first : first_name (refuses mark) plan.sinks ≡ Some name

-- the plan loads and is safe, and its sources can have no clocks, for this cause
pub record IsUnclocked (files : Files) (plan : Plan) (fault : ClockFault) : Type 0 where
  pub library : Sounds
  pub safe : IsSafe files plan library
  pub of_plan : fault ≢ ClockFault.Memory
  pub cause : IsCause plan fault

-- the output of this name is the first that is too long for the header of its file after so many ticks
pub record IsTooLong (files : Files) (plan : Plan) (ticks : ℕ) (name : List ℕ) : Type 0 where
  pub library : Sounds
  pub clocks : ClockMap
  pub clocked : IsClocked files plan library clocks
  pub first : first_name (is_too_long plan ticks) plan.sinks ≡ Some name

-- the plan has this fault of files; a read that failed and want of memory are no such fault
abbrev pub IsFileFault : Files → Plan → LoadFault → Type 0
IsFileFault files plan (Missing name) = IsUnloaded files plan (Missing name)
IsFileFault files plan (BadAudio name fault) = IsUnloaded files plan (BadAudio name fault)
IsFileFault files plan (FileTooLarge name) = IsUnloaded files plan (FileTooLarge name)
IsFileFault files plan AllTooLarge = IsUnloaded files plan AllTooLarge
IsFileFault files plan (ReadFault name) = ⊥
IsFileFault files plan Memory = ⊥

-- the plan, rendered for so many ticks, has this fault: of its files, of an output that may have gaps or is too long,
-- or of its clocks
abbrev pub IsStationFault : Files → Plan → (ticks : ℕ) → StationFault → Type 0
IsStationFault files plan ticks (StationFault.Files fault) = IsFileFault files plan fault
IsStationFault files plan ticks (FallibleOutput name) = IsUnsafe files plan name
IsStationFault files plan ticks (Clocks fault) = IsUnclocked files plan fault
IsStationFault files plan ticks (OutputTooLong name) = IsTooLong files plan ticks name

-- what is found of a plan: that it fits, by its audio files and its clocks, or its first fault
pub data Finding : Type 0 where
  Fits : Sounds → ClockMap → Finding
  Fails : StationFault → Finding

-- this is found of the plan, to be rendered for so many ticks: that it can be, with these audio files and clocks, or
-- its first fault
abbrev pub IsFinding : Files → Plan → (ticks : ℕ) → Finding → Type 0
IsFinding files plan ticks (Fits library clocks) = IsRenderable files plan ticks library clocks
IsFinding files plan ticks (Fails fault) = IsStationFault files plan ticks fault

-- this is found of the plan, to be rendered for so many ticks, and nothing else
pub record IsFound (files : Files) (plan : Plan) (ticks : ℕ) (finding : Finding) : Type 0 where
  pub holds : IsFinding files plan ticks finding
  pub only : (other : Finding) → IsFinding files plan ticks other → other ≡ finding

-- what the rendering of a plan for so many ticks may rely on, whatever the files are
pub record IsFit (plan : Plan) (library : Sounds) (clocks : ClockMap) (ticks : ℕ) : Type 0 where
  pub plan_is : IsWellFormed plan
  pub sounds : IsLibrary library
  pub leaves : length library.leaves ≡ length plan.nodes
  pub singles : HaveSingles plan.nodes library.leaves
  pub map : IsClockMap plan clocks
  pub few : ticks ≤ 1000000000
  pub none : first_name (is_too_long plan ticks) plan.sinks ≡ None
