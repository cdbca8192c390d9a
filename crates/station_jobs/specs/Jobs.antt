-- What a call does to the shelf of files for its verdict, and what it reports.
use Rattle.std.specs.Prelude.{◌≡◌, ◌⊎◌, ℕ, List, Bool, false, Some, map}
use Rattle.liq_base.specs.Files.{Files}
use Rattle.liq_base.specs.Shelves.{OnlyRead, ShelfTold}
use Rattle.fallible_infer.specs.Infallible.{IsMarking}
use Rattle.run_records.specs.Ordered.{IsOrdered}
use Rattle.run_records.specs.Records.{AreWindows, Run}
use Rattle.run_records.specs.Rounds.{HasNoJoin}
use Rattle.trace_records.specs.Listings.{LeadOnward}
use Rattle.stations.specs.Creations.{CreatedFront, HaveListed, after_making, closings_of}
use Rattle.stations.specs.Outputs.{with_outputs}
use Rattle.stations.specs.Renderings.{BeginsAsOneThread, HasOneRecord, IsDetermined, RendersAsOneThread, StoppedBehindTicks, StoppedInTicks}
use Rattle.stations.specs.Stations.{Station, IsLawful, bare, setting_of_run}
use Rattle.stations.specs.Streams.{HasNoGaps}
use Rattle.stations.specs.Traces.{files_of}
use Rattle.stations.specs.Reports.{report_of, check_report_of}
use Rattle.station_jobs.specs.Summary.{SumsAsOneThread, summary_of}
use Rattle.station_jobs.specs.Verdicts.{Verdict, Usage, Checked, Accepted, Made}

-- The ticks of a run can be put in one order, in which each chunk is put in an earlier tick than the one that gets it.
-- It is promised if the main clocks can be listed so that each buffer that joins two of them is fed by the earlier one
-- and read by the later one.
abbrev pub IsOrderedOnward : Station → Run → Type 0
IsOrderedOnward station run = (window : ℕ)
    (lawful : AreWindows (bare station) station.clocks.running window station.ticks run) (listing : List ℕ)
    → LeadOnward (bare station) station.clocks.running listing
    → IsOrdered (setting_of_run station run) station.clocks.running lawful.accepted station.ticks

-- The names of the files that a run of a station writes, in the order in which it creates them: its outputs, and the
-- cue files and the trace that are wanted.
abbrev pub names_of : Station → Run → List (List ℕ)
names_of station run = map (λ file. file.name) (files_of station run)

-- A run wrote all outputs, then the wanted cue files and trace, to the shelf, which tells `old` before and `new` after
-- it and had these files. It made and closed just those, in this order, each with room for its bytes, and printed the
-- report. On one thread and in a replay there is no other run. Where no buffer joins two clocks, one thread writes the
-- same outputs and cue files and tells the same.
pub record Wrote (station : Station) (files : Files) (old new : ShelfTold) (report : List ℕ) : Type 0 where
  pub run : Run
  pub lawful : IsLawful station run
  pub written : new.files ≡ Some (with_outputs files (files_of station run))
  pub created : new.created ≡ after_making (names_of station run) old.created
  pub closed : HaveListed (closings_of station run) old.closed new.closed
  pub report_is : report ≡ report_of station run
  pub no_gaps : HasNoGaps station run
  pub one : HasOneRecord station run
  pub ordered : IsOrderedOnward station run
  pub as_one_thread : HasNoJoin (bare station) station.clocks.running → RendersAsOneThread station run

-- What `check` did: the shelf was only read, from `old` to `new`, and the report tells the clock of each output and
-- whether its node is infallible. `mark` says this of each node, and is no mark of a track.
pub record Told (station : Station) (old new : ShelfTold) (report : List ℕ) : Type 0 where
  pub kept : OnlyRead old new
  pub mark : ℕ → Bool
  pub marking : IsMarking station.plan.nodes mark
  pub report_is : report ≡ check_report_of station mark

-- What `make` did: the shelf was only read, from `old` to `new`, and the report is the summary of a run over the files
-- of a workload (`made`). Rounds on one thread have the same summary, so it follows from the station and its files
-- alone.
pub record Summed (made : Files) (station : Station) (old new : ShelfTold) (report : List ℕ) : Type 0 where
  pub kept : OnlyRead old new
  pub run : Run
  pub lawful : IsLawful station run
  pub report_is : report ≡ summary_of made station run
  pub no_gaps : HasNoGaps station run
  pub as_one_thread : SumsAsOneThread made station report

-- What was done for a verdict that is no refusal, with its report: a station was rendered to files, or checked, or the
-- rendering of a made workload was summed up. `old` and `new` are what the shelf tells before and after.
abbrev pub IsDone : Verdict → Files → (old new : ShelfTold) → (report : List ℕ) → Type 0
IsDone verdict files old new report =
    ((station : Station) × (verdict ≡ Accepted station) × Wrote station files old new report)
    ⊎ ((station : Station) × (verdict ≡ Checked station) × Told station old new report)
    ⊎ ((made : Files) × (station : Station) × (verdict ≡ Made made station) × Summed made station old new report)

-- A rendering broke off: `device` says whether by a failed device or for want of memory. On one thread, and where no
-- buffer joins two clocks, its run begins as that of one thread does; and if it made all ticks, it renders what that
-- does. The first of its files were made and closed, in their order, and no other. The shelf had `files` before, and
-- tells `old` before and `new` after it.
pub record BrokeOff (station : Station) (device : Bool) (files : Files) (old new : ShelfTold) : Type 0 where
  pub left : ((stopped : StoppedInTicks station device files old new)
      × (IsDetermined station → BeginsAsOneThread station stopped.run))
      ⊎ ((stopped : StoppedBehindTicks station files old new) × HasOneRecord station stopped.run
      × (HasNoJoin (bare station) station.clocks.running → RendersAsOneThread station stopped.run))
  pub front : (run : Run) → CreatedFront (names_of station run) old new

-- The verdict is to render a station, and the rendering broke off: by a failed `device`, or else for want of memory.
-- `old` and `new` are what the shelf tells before and after.
abbrev pub IsBroken : Verdict → (device : Bool) → Files → (old new : ShelfTold) → Type 0
IsBroken verdict device files old new = (station : Station) × (verdict ≡ Accepted station)
    × BrokeOff station device files old new

-- Memory was refused to a job, which is possible for any words with a form: the shelf was only read, or a rendering
-- broke off. `old` and `new` are what the shelf tells before and after.
abbrev pub IsStarved : Verdict → Files → (old new : ShelfTold) → Type 0
IsStarved verdict files old new = (verdict ≡ Usage → ⊥) × (OnlyRead old new ⊎ IsBroken verdict false files old new)
