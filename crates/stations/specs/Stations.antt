-- What an accepted script renders.
use Rattle.std.specs.Prelude.{◌≡◌, ℕ, suc, ◌+◌, ◌++◌, List, [], Option, Bool}
use Rattle.frame_core.specs.Library.{Sounds}
use Rattle.plan_core.specs.declared.plan.Plan.{Plan}
use Rattle.clock_infer.specs.declared.clock_map.ClockMap.{ClockMap}
use Rattle.stream_meaning.specs.Instants.{Setting, answered}
use Rattle.frame_core.specs.Calls.{Answer}
use Rattle.run_records.specs.Records.{AreRoundsBegun, AreWindowsBegun, AreWindows, IsRounds, IsWithin, Run, answers_of, setting_in, ticks_by}
use Rattle.trace_log.specs.Values.{TraceValue}
use Rattle.trace_records.specs.Traces.{IsRecordOf, base_of}

-- how a station is rendered: on one thread, in rounds; by threads, in windows of so many ticks; or again, on one
-- thread, as a trace tells
pub data Way : Type 0 where
  InRounds : Way
  InWindows : (window : ℕ) → Way
  Again : (trace : TraceValue) → Way

-- What an accepted script renders: a plan with its audio files and its clocks, the second of the week at which it
-- begins, how many ticks, and in which way; the name of the file for the trace, if one is wanted, which threads alone
-- leave; and whether cue files are wanted. A `check` renders no tick, from second 0 on, in rounds, without a trace.
pub record Station : Type 0 where
  pub plan : Plan
  pub library : Sounds
  pub clocks : ClockMap
  pub start : ℕ
  pub ticks : ℕ
  pub way : Way
  pub trace : Option (List ℕ)
  pub cues : Bool

-- what the streams of a station rest on, but for the answers of its buffers
abbrev pub bare : Station → Setting
bare station = base_of station.plan station.library station.clocks station.start

-- what the streams of a station rest on in a run: also the answers of its buffers
abbrev pub setting_of_run : Station → Run → Setting
setting_of_run station run = setting_in (bare station) run

-- the answers of a run that was broken off, and then those of `rest`; a replay has those of its whole record, and none
-- follow
abbrev pub answers_with : Way → Run → (rest : ℕ → List Answer) → ℕ → List Answer
answers_with InRounds run rest = λ buffer. answers_of run buffer ++ rest buffer
answers_with (InWindows window) run rest = λ buffer. answers_of run buffer ++ rest buffer
answers_with (Again trace) run rest = answers_of run

-- the setting of a run that broke off, had it gone on with these answers
abbrev pub setting_with : Station → Run → (rest : ℕ → List Answer) → Setting
setting_with station run rest = answered (bare station) (answers_with station.way run rest)

-- a run is the record that a trace of so many ticks tells
pub record IsReplay (setting : Setting) (clocks ticks : ℕ) (trace : TraceValue) (run : Run) : Type 0 where
  pub ticks_are : trace.ticks ≡ ticks
  pub of : IsRecordOf setting clocks trace run

-- A run is a whole one: so many clocks made all their ticks, in rounds on one thread, by threads in windows of so many
-- ticks, or as a trace tells.
abbrev pub IsLawfulIn : Setting → (clocks ticks : ℕ) → Way → Run → Type 0
IsLawfulIn setting clocks ticks InRounds run = IsRounds setting clocks ticks run
IsLawfulIn setting clocks ticks (InWindows window) run = AreWindows setting clocks window ticks run
IsLawfulIn setting clocks ticks (Again trace) run = IsReplay setting clocks ticks trace run

-- Rounds on one thread came to the tick of one clock, and maybe stopped in it: clock m made `made m` whole ticks and
-- began `tried m`. Clocks 0 to `clocks - 1` run, and each is to make so many ticks in all.
pub record AreRoundsAt (setting : Setting) (clocks ticks : ℕ) (run : Run) (made tried : ℕ → ℕ) : Type 0 where
  pub rounds : AreRoundsBegun setting clocks ticks run
  pub made_are : (m : ℕ) → made m ≡ ticks_by ticks rounds.round rounds.clock m
  pub tried_are : (m : ℕ) → tried m ≡ ticks_by ticks rounds.round (rounds.clock + 1) m

-- A run by threads, in windows of `window` ticks, came so far: clock m made `made m` whole ticks and began `tried m`.
-- Clocks 0 to `clocks - 1` run, and each is to make `ticks` ticks in all.
pub record AreWindowsAt (setting : Setting) (clocks ticks window : ℕ) (run : Run) (made tried : ℕ → ℕ) : Type 0 where
  pub windows : AreWindowsBegun setting clocks window ticks run
  pub made_are : (m : ℕ) → made m ≡ windows.made m
  pub tried_are : (m : ℕ) → tried m ≡ windows.tried m

-- at most one clock stopped in the middle of a tick, where clock m made `made m` whole ticks and began `tried m`
abbrev pub IsOfOneTick : (made tried : ℕ → ℕ) → Type 0
IsOfOneTick made tried = (m n : ℕ) → tried m ≡ suc (made m) → tried n ≡ suc (made n) → m ≡ n

-- The run in this way, of so many ticks of each of so many clocks, came so far: clock m made `made m` whole ticks and
-- began `tried m`. The record of a replay is whole however far it came, since its trace tells all answers.
abbrev pub CameTo : Setting → (clocks ticks : ℕ) → Way → Run → (made tried : ℕ → ℕ) → Type 0
CameTo setting clocks ticks InRounds run made tried = AreRoundsAt setting clocks ticks run made tried
CameTo setting clocks ticks (InWindows window) run made tried = AreWindowsAt setting clocks ticks window run made tried
CameTo setting clocks ticks (Again trace) run made tried = IsReplay setting clocks ticks trace run × IsOfOneTick made tried

-- A run came to its end or broke off before it: clock m made `made m` whole ticks and began `tried m`, which are no
-- more, or also the one in which it stopped. Each of so many clocks is to make so many ticks, in this way.
pub record IsBegunIn (setting : Setting) (clocks ticks : ℕ) (way : Way) (run : Run) : Type 0 where
  pub made : ℕ → ℕ
  pub tried : ℕ → ℕ
  pub within : (m : ℕ) → IsWithin 0 ticks (made m) (tried m)
  pub came : CameTo setting clocks ticks way run made tried

-- the run is one of this station, to its end
abbrev pub IsLawful : Station → Run → Type 0
IsLawful station run = IsLawfulIn (bare station) station.clocks.running station.ticks station.way run

-- the run is one of this station that may have broken off
abbrev pub IsBegun : Station → Run → Type 0
IsBegun station run = IsBegunIn (bare station) station.clocks.running station.ticks station.way run
