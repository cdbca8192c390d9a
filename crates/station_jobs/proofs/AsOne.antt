-- What is told of a workload where no buffer joins two clocks.
use Rattle.std.proofs.Common.{◌≡◌, ◌<◌, ◌*◌, ◌++◌, ◌∙◌, ℕ, List, [], ◌∷◌, ap, refl, subst, sym}
use Rattle.liq_base.specs.Files.{Files}
use Rattle.clock_infer.specs.declared.clock_map.ClockMap.{ClockMap}
use Rattle.plan_core.specs.declared.sink.SinkPlan.{SinkPlan}
use Rattle.plan_core.specs.declared.sink.SinkPlan.TheVariants.{Output, Feed}
use Rattle.stream_meaning.specs.Instants.{Setting}
use Rattle.stream_meaning.specs.Settings.{IsSetting}
use Rattle.stream_meaning.specs.Sinks.{gaps}
use Rattle.run_records.specs.Records.{AreWindows, IsRounds, Run}
use Rattle.run_records.specs.Rounds.{HasNoJoin, merged}
use Rattle.run_records.proofs.Alone.{merged_setting}
use Rattle.stations.specs.Findings.{IsFit}
use Rattle.stations.specs.Outputs.{with_outputs}
use Rattle.stations.specs.Stations.{Again, InRounds, InWindows, IsLawful, IsLawfulIn, Station, Way, bare, setting_of_run}
use Rattle.stations.specs.Streams.{outputs_in}
use Rattle.station_jobs.specs.Summary.{SumsAsOneThread, sum_at, summary_of, summed_line, summed_lines}

-- a summary rests on the setting alone
same_lines : (station : Station) (run other : Run) → setting_of_run station run ≡ setting_of_run station other → (files : Files) (sinks : List SinkPlan)
    → summed_lines station run files sinks ≡ summed_lines station other files sinks
same_lines station run other same files [] = refl
same_lines station run other same files (Output name node fallible wide ∷ sinks) =
    let rest = same_lines station run other same files sinks in
    λ i. summed_line name (station.ticks * station.plan.frame) (gaps (same i) node station.ticks) (sum_at files name) ++ rest i
same_lines station run other same files (Feed buffer node ∷ sinks) = same_lines station run other same files sinks

same_summary : (made : Files) (station : Station) (run other : Run) → setting_of_run station run ≡ setting_of_run station other → summary_of made station run ≡ summary_of made station other
same_summary made station run other same =
    same_lines station run other same (with_outputs made (outputs_in (setting_of_run station run) station.ticks station.plan.sinks)) station.plan.sinks
    ∙ ap (λ (s : Setting). summed_lines station other (with_outputs made (outputs_in s station.ticks station.plan.sinks)) station.plan.sinks) same

-- the laws of records that are needed here
abbrev AreOne : Type 0
AreOne = (setting : Setting) (clocks : ClockMap) → IsSetting setting clocks → (running N : ℕ) (run other : Run) → IsRounds setting running N run → IsRounds setting running N other → run ≡ other

abbrev AreRounds : Type 0
AreRounds = (setting : Setting) (clocks : ClockMap) → IsSetting setting clocks → (W N : ℕ) (run : Run) → HasNoJoin setting clocks.running → AreWindows setting clocks.running W N run → IsRounds setting clocks.running N (merged run)

-- a plan that fits has a meaning
pub fit_setting : (station : Station) → IsFit station.plan station.library station.clocks station.ticks → station.start < 604800 → IsSetting (bare station) station.clocks
fit_setting station fit start =
    record { plan = fit.plan_is; map = fit.map; each = refl; library = fit.sounds; leaves = fit.leaves; singles = fit.singles; start = start }

sums_in_windows : AreRounds → AreOne → (made : Files) (station : Station) (run : Run) → IsSetting (bare station) station.clocks → (window : ℕ)
    → AreWindows (bare station) station.clocks.running window station.ticks run → HasNoJoin (bare station) station.clocks.running → SumsAsOneThread made station (summary_of made station run)
sums_in_windows are_rounds are_one made station run is window lawful local =
    let rounds = are_rounds (bare station) station.clocks is window station.ticks run local lawful in
    record {
      alone = merged run;
      rounds = rounds;
      one = λ other more. are_one (bare station) station.clocks is station.clocks.running station.ticks other (merged run) more rounds;
      summary_is = same_summary made station run (merged run) (sym (merged_setting (bare station) run));
    }

sums_in : AreRounds → AreOne → (made : Files) (station : Station) (run : Run) → IsSetting (bare station) station.clocks → (way : Way)
    → IsLawfulIn (bare station) station.clocks.running station.ticks way run → HasNoJoin (bare station) station.clocks.running → SumsAsOneThread made station (summary_of made station run)
sums_in are_rounds are_one made station run is InRounds lawful local = record {
  alone = run;
  rounds = lawful;
  one = λ other rounds. are_one (bare station) station.clocks is station.clocks.running station.ticks other run rounds lawful;
  summary_is = refl;
}
sums_in are_rounds are_one made station run is (InWindows window) lawful local = sums_in_windows are_rounds are_one made station run is window lawful local
sums_in are_rounds are_one made station run is (Again trace) lawful local =
    sums_in_windows are_rounds are_one made station run is trace.window (subst (λ n. AreWindows (bare station) station.clocks.running trace.window n run) lawful.ticks_are lawful.of.lawful) local

pub sums_as_one : AreRounds → AreOne → (made : Files) (station : Station) (run : Run) → IsFit station.plan station.library station.clocks station.ticks → station.start < 604800
    → IsLawful station run → HasNoJoin (bare station) station.clocks.running → SumsAsOneThread made station (summary_of made station run)
sums_as_one are_rounds are_one made station run fit start lawful local =
    sums_in are_rounds are_one made station run (fit_setting station fit start) station.way lawful local
