-- How a check ends without the plan's audio files and clocks. Only private functions cite what stands below `HaltsFor`.
use Rattle.std.specs.Prelude.{◌≡◌, ⊤, ℕ, Bool, List, Some}
use Rattle.std.specs.Option.{ForSome}
use Rattle.liq_base.specs.Counts.{Rose}
use Rattle.liq_base.specs.Files.{Files}
use Rattle.liq_base.specs.Shelves.{ShelfTold}
use Rattle.frame_core.specs.Library.{Sounds}
use Rattle.plan_core.specs.declared.plan.Plan.{Plan}
use Rattle.clock_infer.specs.declared.clock_map.ClockFault.{ClockFault}
use Rattle.clock_infer.specs.declared.clock_map.ClockFault.TheVariants.{TwoClocks, Nested, TooManyClocks}
use Rattle.fallible_infer.specs.Infallible.{IsMarking, refuses}
use Rattle.track_library.specs.declared.fault.LoadFault.{LoadFault}
use Rattle.track_library.specs.declared.fault.LoadFault.TheVariants.{Missing, BadAudio, FileTooLarge, AllTooLarge, ReadFault}
use Rattle.stations.specs.declared.fault.StationFault.{StationFault}
use Rattle.stations.specs.declared.fault.StationFault.TheVariants.{FallibleOutput, Clocks, OutputTooLong}
use Rattle.stations.specs.Findings.{Fails, IsFound, IsLoaded, first_name, is_too_long}
use Rattle.station_check.specs.Steps.{OnlyCause}
use Rattle.station_check.specs.declared.halt.CheckEnd.{CheckEnd}
use Rattle.station_check.specs.declared.halt.CheckEnd.TheVariants.{Refused, Read, Memory}

-- Why a check of a plan ends without passing. A refusal is for a fault that `IsTold files fault` states, where the
-- shelf tells its files; for a failed read the number of failed reads rose; memory may be refused anywhere. `old` and
-- `new` are what the shelf told before and after.
abbrev pub HaltsFor : (old new : ShelfTold) → (Files → StationFault → Type 0) → CheckEnd → Type 0
HaltsFor old new IsTold (Refused fault) = ForSome old.files (λ files. IsTold files fault)
HaltsFor old new IsTold Read = Rose old.reads new.reads
HaltsFor old new IsTold Memory = ⊤

-- how a check ends at this fault of audio files: a refusal of the plan, a read that failed, or want of memory
abbrev pub load_halt : LoadFault → CheckEnd
load_halt (Missing name) = Refused (StationFault.Files (Missing name))
load_halt (BadAudio name fault) = Refused (StationFault.Files (BadAudio name fault))
load_halt (FileTooLarge name) = Refused (StationFault.Files (FileTooLarge name))
load_halt AllTooLarge = Refused (StationFault.Files AllTooLarge)
load_halt (ReadFault name) = Read
load_halt LoadFault.Memory = Memory

-- how a check ends at this fault of clocks: a refusal of the plan, or want of memory
abbrev pub clock_halt : ClockFault → CheckEnd
clock_halt (TwoClocks node first second) = Refused (Clocks (TwoClocks node first second))
clock_halt (Nested node) = Refused (Clocks (Nested node))
clock_halt TooManyClocks = Refused (Clocks TooManyClocks)
clock_halt ClockFault.Memory = Memory

-- the fault of a plan in which an output may have gaps though the script does not allow it: it names the first output
-- that needs an infallible node and has none
pub record IsGapped (plan : Plan) (fault : StationFault) : Type 0 where
  pub name : List ℕ
  pub fault_is : fault ≡ FallibleOutput name
  pub mark : ℕ → Bool
  pub marking : IsMarking plan.nodes mark
  pub first : first_name (refuses mark) plan.sinks ≡ Some name

-- how the look for outputs that may have gaps ends, where it does not pass
abbrev pub GapHalts : Plan → CheckEnd → Type 0
GapHalts plan (Refused fault) = IsGapped plan fault
GapHalts plan Read = ⊥
GapHalts plan Memory = ⊤

-- the fault of a plan that has no clocks: it tells the cause, and there is no other
pub record HasNoClocks (plan : Plan) (fault : StationFault) : Type 0 where
  pub clock_fault : ClockFault
  pub fault_is : fault ≡ Clocks clock_fault
  pub only_cause : OnlyCause plan clock_fault

-- how the look for clocks ends, where it does not pass
abbrev pub ClockHalts : Plan → CheckEnd → Type 0
ClockHalts plan (Refused fault) = HasNoClocks plan fault
ClockHalts plan Read = ⊥
ClockHalts plan Memory = ⊤

-- the fault of a plan with an output that is too long after so many ticks: it names the first one
pub record IsLong (plan : Plan) (ticks : ℕ) (fault : StationFault) : Type 0 where
  pub name : List ℕ
  pub fault_is : fault ≡ OutputTooLong name
  pub first : first_name (is_too_long plan ticks) plan.sinks ≡ Some name

-- how the look for outputs that are too long ends, where it does not pass
abbrev pub LengthHalts : Plan → (ticks : ℕ) → CheckEnd → Type 0
LengthHalts plan ticks (Refused fault) = IsLong plan ticks fault
LengthHalts plan ticks Read = ⊥
LengthHalts plan ticks Memory = ⊤

-- how the check of a plan whose audio files are there ends, where it does not pass
abbrev pub RestHalts : Plan → (ticks : ℕ) → CheckEnd → Type 0
RestHalts plan ticks (Refused fault) = (files : Files) (library : Sounds) → IsLoaded files plan library
    → IsFound files plan ticks (Fails fault)
RestHalts plan ticks Read = ⊥
RestHalts plan ticks Memory = ⊤
