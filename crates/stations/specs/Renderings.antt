-- What a rendering leaves that was broken off, and what threads render beside one thread.
use Rattle.std.specs.Prelude.{◌≡◌, ◌⊎◌, ◌++◌, Bool, ℕ, List, IsSomeAnd, ⊤}
use Rattle.liq_base.specs.Files.{Files}
use Rattle.liq_base.specs.Shelves.{ShelfTold}
use Rattle.frame_core.specs.Calls.{Answer}
use Rattle.run_records.specs.Records.{IsRounds, Run, setting_in}
use Rattle.stream_meaning.specs.Instants.{Setting}
use Rattle.run_records.specs.Rounds.{BeginsRounds, HasNoJoin}
use Rattle.stations.specs.Creations.{after_making, names_in}
use Rattle.stations.specs.Cues.{cue_files}
use Rattle.stations.specs.Outputs.{HoldsEnds, HoldsSome, HoldsUpto, with_outputs}
use Rattle.stations.specs.Reports.{report_of}
use Rattle.stations.specs.Stations.{Station, Way, InRounds, InWindows, Again, IsBegun, IsLawful, bare}
use Rattle.stations.specs.Streams.{ends_of, output_files, parts_with}
use Rattle.stations.specs.Traces.{later_files}

-- A run broke off in its ticks, or before them. Whatever answers had followed, each output that was created holds its
-- bytes of the ticks that its clock made, and then a prefix of those of the tick in which it stopped. If a write failed
-- at its closing, it holds any prefix of them, or what it held before. `device` says that a device failed, not memory;
-- `old` and `new` are what the shelf told before, when it held `files`, and after.
pub record StoppedInTicks (station : Station) (device : Bool) (files : Files) (old new : ShelfTold) : Type 0 where
  pub run : Run
  pub begun : IsBegun station run
  pub parts : (rest : ℕ → List Answer)
      → IsSomeAnd new.files (λ now. HoldsSome ((m : ℕ) → begun.made m ≡ 0) device files
      (parts_with station run begun rest) now old new)

-- A run made all its ticks, and what comes after them broke off: a last zero byte or a closing of the outputs; or, once
-- all outputs were written, a file among the cue files and the trace. All outputs had been created, and of the later
-- files maybe some.
pub record StoppedBehindTicks (station : Station) (files : Files) (old new : ShelfTold) : Type 0 where
  pub run : Run
  pub lawful : IsLawful station run
  pub part : IsSomeAnd new.files (λ now. HoldsEnds old.writes files (ends_of station run) now new.writes
      ⊎ HoldsUpto (with_outputs files (output_files station run)) (later_files station run) now)
  pub more : List (List ℕ)
  pub created : new.created ≡ after_making (names_in station.plan.sinks ++ more) old.created

-- What a rendering leaves that broke off, in its ticks or after them. `device` says that a device failed, not memory;
-- `old` and `new` are what the shelf told before, when it held these files, and after.
abbrev pub WrotePart : Station → (device : Bool) → Files → (old new : ShelfTold) → Type 0
WrotePart station device files old new = StoppedInTicks station device files old new
    ⊎ StoppedBehindTicks station files old new

-- A run renders what one thread renders: rounds on one thread have just one record for this station, and the outputs,
-- the cue files and the report of the run are those of that record.
pub record RendersAsOneThread (station : Station) (run : Run) : Type 0 where
  pub alone : Run
  pub rounds : IsRounds (bare station) station.clocks.running station.ticks alone
  pub one : (other : Run) → IsRounds (bare station) station.clocks.running station.ticks other → other ≡ alone
  pub files_are : output_files station run ≡ output_files station alone
  pub cues_are : cue_files station run ≡ cue_files station alone
  pub report_is : report_of station run ≡ report_of station alone

-- A run that was broken off begins these rounds: with some answers after its own it has theirs. A replay has the
-- answers of its whole record, and these are theirs.
abbrev pub BeginsRoundsIn : Way → Setting → (run rounds : Run) → Type 0
BeginsRoundsIn InRounds setting run rounds = BeginsRounds setting run rounds
BeginsRoundsIn (InWindows window) setting run rounds = BeginsRounds setting run rounds
BeginsRoundsIn (Again trace) setting run rounds = setting_in setting run ≡ setting_in setting rounds

-- A run of the station that was broken off begins what one thread renders: rounds of the station have one record, and
-- with some answers after its own the run has those of that record.
pub record BeginsAsOneThread (station : Station) (run : Run) : Type 0 where
  pub alone : Run
  pub rounds : IsRounds (bare station) station.clocks.running station.ticks alone
  pub one : (other : Run) → IsRounds (bare station) station.clocks.running station.ticks other → other ≡ alone
  pub begins : BeginsRoundsIn station.way (bare station) run alone

-- the station is rendered in rounds, or no buffer joins two of its clocks
abbrev pub IsDetermined : Station → Type 0
IsDetermined station = (station.way ≡ InRounds) ⊎ HasNoJoin (bare station) station.clocks.running

-- a rendering in this way has one record: rounds and the replay of a trace have; threads may have several
abbrev pub IsOfOne : Way → Type 0
IsOfOne InRounds = ⊤
IsOfOne (InWindows window) = ⊥
IsOfOne (Again trace) = ⊤

-- if the station is rendered on one thread, this run is its only record
abbrev pub HasOneRecord : (station : Station) (run : Run) → Type 0
HasOneRecord station run = IsOfOne station.way → (other : Run) → IsLawful station other → other ≡ run
