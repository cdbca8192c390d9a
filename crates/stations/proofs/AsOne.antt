-- What threads render where no buffer joins two clocks.
use Rattle.std.proofs.Common.{◌≡◌, ◌⊎◌, inl, inr, ◌++◌, ◌*◌, ℕ, zero, suc, List, [], ◌∷◌, map, flat_map, slice_index_or, append-nil, ap, refl, sym, subst, ◌∙◌}
use Rattle.std.specs.Prelude.{count_by, is_none, is_some}
use Rattle.clock_infer.specs.declared.clock_map.ClockMap.{ClockMap}
use Rattle.plan_core.specs.declared.sink.BufferPlan.{BufferPlan}
use Rattle.plan_core.specs.declared.sink.SinkPlan.{SinkPlan}
use Rattle.plan_core.specs.declared.sink.SinkPlan.TheVariants.{Output, Feed}
use Rattle.stream_meaning.specs.Instants.{Setting}
use Rattle.stream_meaning.specs.Settings.{IsSetting}
use Rattle.stream_meaning.specs.Sinks.{gaps}
use Rattle.run_records.specs.Records.{AreRoundsBegun, AreWindowsBegun, AreWindows, IsRounds, Run, Window, answers_of, puts_of, setting_in}
use Rattle.run_records.specs.Rounds.{BeginsRounds, HasNoJoin, as_one, merged}
use Rattle.run_records.proofs.Alone.{merged_setting}
use Rattle.run_records.proofs.Flattening.{merged_answers}
use Rattle.trace_log.specs.Values.{TraceValue}
use Rattle.trace_records.specs.Traces.{IsRecordOf, trace_of}
use Rattle.stations.specs.Renderings.{BeginsRoundsIn, IsOfOne, RendersAsOneThread}
use Rattle.stations.specs.Reports.{answered_lines, answers_line, rendered_line, rendered_lines, report_of}
use Rattle.stations.specs.Stations.{Way, InRounds, InWindows, Again, IsBegunIn, IsLawfulIn, IsReplay, Station, bare, setting_of_run}
use Rattle.stations.specs.Cues.{cues_if}
use Rattle.stations.specs.Streams.{outputs_in}

-- what the puts of a run were answered stays where its windows are merged
merged_put : (xs : List (List Window)) (b : ℕ) → flat_map (λ (w : Window). w.0) (slice_index_or (map as_one xs) b []) ≡ flat_map (λ (w : Window). w.0) (slice_index_or xs b [])
merged_put [] b = refl
merged_put (x ∷ xs) zero = append-nil (flat_map (λ (w : Window). w.0) x)
merged_put (x ∷ xs) (suc b) = merged_put xs b

merged_puts : (run : Run) (b : ℕ) → puts_of (merged run) b ≡ puts_of run b
merged_puts run b = merged_put run.buffers b

-- a report rests on the setting alone, and on what buffers answered
same_outputs : (station : Station) (run other : Run) → setting_of_run station run ≡ setting_of_run station other → (sinks : List SinkPlan) → rendered_lines station run sinks ≡ rendered_lines station other sinks
same_outputs station run other same [] = refl
same_outputs station run other same (Output name node fallible wide ∷ sinks) =
    let rest = same_outputs station run other same sinks in
    λ i. rendered_line name (station.ticks * station.plan.frame) (gaps (same i) node station.ticks) ++ rest i
same_outputs station run other same (Feed buffer node ∷ sinks) = same_outputs station run other same sinks

same_buffers : (run other : Run) → ((b : ℕ) → puts_of run b ≡ puts_of other b) → ((b : ℕ) → answers_of run b ≡ answers_of other b) → (b : ℕ) (plans : List BufferPlan)
    → answered_lines run b plans ≡ answered_lines other b plans
same_buffers run other puts takes b [] = refl
same_buffers run other puts takes b (plan ∷ plans) =
    let rest = same_buffers run other puts takes (suc b) plans in
    λ i. answers_line b (count_by is_some (puts b i)) (count_by is_none (puts b i)) (count_by is_some (takes b i)) (count_by is_none (takes b i)) ++ rest i

same_report : (station : Station) (run : Run) → report_of station run ≡ report_of station (merged run)
same_report station run =
    let settings = sym (merged_setting (bare station) run) in
    let outputs = same_outputs station run (merged run) settings station.plan.sinks in
    let buffers = same_buffers run (merged run) (λ b. sym (merged_puts run b)) (λ b. sym (merged_answers run b)) 0 station.plan.buffers in
    λ i. outputs i ++ buffers i

-- the laws of records that are needed here
abbrev AreOne : Type 0
AreOne = (setting : Setting) (clocks : ClockMap) → IsSetting setting clocks → (running N : ℕ) (run other : Run) → IsRounds setting running N run → IsRounds setting running N other → run ≡ other

abbrev AreRounds : Type 0
AreRounds = (setting : Setting) (clocks : ClockMap) → IsSetting setting clocks → (W N : ℕ) (run : Run) → HasNoJoin setting clocks.running → AreWindows setting clocks.running W N run → IsRounds setting clocks.running N (merged run)

-- a run in windows renders what one thread renders, whatever left its record
in_windows : AreRounds → AreOne → (station : Station) (run : Run) → IsSetting (bare station) station.clocks → (window : ℕ)
    → AreWindows (bare station) station.clocks.running window station.ticks run → HasNoJoin (bare station) station.clocks.running → RendersAsOneThread station run
in_windows are_rounds are_one station run is window lawful local =
    let rounds = are_rounds (bare station) station.clocks is window station.ticks run local lawful in
    record {
      alone = merged run;
      rounds = rounds;
      one = λ other more. are_one (bare station) station.clocks is station.clocks.running station.ticks other (merged run) more rounds;
      files_are = ap (λ (s : Setting). outputs_in s station.ticks station.plan.sinks) (sym (merged_setting (bare station) run));
      cues_are = ap (λ (s : Setting). cues_if station.cues s station.ticks station.plan.sinks) (sym (merged_setting (bare station) run));
      report_is = same_report station run;
    }

-- the record that a trace tells is one in its windows
windows_of_trace : (setting : Setting) (clocks ticks : ℕ) (trace : TraceValue) (run : Run) → IsReplay setting clocks ticks trace run → AreWindows setting clocks trace.window ticks run
windows_of_trace setting clocks ticks trace run replay = subst (λ n. AreWindows setting clocks trace.window n run) replay.ticks_are replay.of.lawful

pub as_one_thread : AreRounds → AreOne → (station : Station) (run : Run) → IsSetting (bare station) station.clocks → (way : Way)
    → IsLawfulIn (bare station) station.clocks.running station.ticks way run → HasNoJoin (bare station) station.clocks.running → RendersAsOneThread station run
as_one_thread are_rounds are_one station run is InRounds lawful local = record {
  alone = run;
  rounds = lawful;
  one = λ other rounds. are_one (bare station) station.clocks is station.clocks.running station.ticks other run rounds lawful;
  files_are = refl;
  cues_are = refl;
  report_is = refl;
}
as_one_thread are_rounds are_one station run is (InWindows window) lawful local = in_windows are_rounds are_one station run is window lawful local
as_one_thread are_rounds are_one station run is (Again trace) lawful local =
    in_windows are_rounds are_one station run is trace.window (windows_of_trace (bare station) station.clocks.running station.ticks trace run lawful) local

-- the law of replays that is needed here
abbrev AreOfRun : Type 0
AreOfRun = (base : Setting) (clocks : ClockMap) → IsSetting base clocks → (trace : TraceValue) (run other : Run) → IsRecordOf base clocks.running trace run
    → AreWindows base clocks.running trace.window trace.ticks other → trace ≡ trace_of trace.window trace.ticks other → run ≡ other

pub one_record : AreOne → AreOfRun → (station : Station) (run : Run) → IsSetting (bare station) station.clocks → (way : Way)
    → IsLawfulIn (bare station) station.clocks.running station.ticks way run → IsOfOne way → (other : Run) → IsLawfulIn (bare station) station.clocks.running station.ticks way other → other ≡ run
one_record are_one are_of_run station run is InRounds lawful of_one other also = are_one (bare station) station.clocks is station.clocks.running station.ticks other run also lawful
one_record are_one are_of_run station run is (InWindows window) lawful of_one other also = absurd of_one
one_record are_one are_of_run station run is (Again trace) lawful of_one other also = are_of_run (bare station) station.clocks is trace other run also.of lawful.of.lawful lawful.of.leaves

-- the laws of broken records that are needed here
abbrev BeginWindows : Type 0
BeginWindows = (setting : Setting) (clocks : ClockMap) → IsSetting setting clocks → (W N : ℕ) (run rounds : Run) → HasNoJoin setting clocks.running
    → AreWindowsBegun setting clocks.running W N run → IsRounds setting clocks.running N rounds → BeginsRounds setting run rounds

abbrev BeginRounds : Type 0
BeginRounds = (setting : Setting) (clocks : ClockMap) → IsSetting setting clocks → (running N : ℕ) (run rounds : Run)
    → AreRoundsBegun setting running N run → IsRounds setting running N rounds → BeginsRounds setting run rounds

-- where no buffer joins two clocks, the answers of a record in windows are those of the rounds
rounds_answers : AreRounds → AreOne → (setting : Setting) (clocks : ClockMap) → IsSetting setting clocks → (W N : ℕ) (run rounds : Run) → HasNoJoin setting clocks.running
    → AreWindows setting clocks.running W N run → IsRounds setting clocks.running N rounds → setting_in setting run ≡ setting_in setting rounds
rounds_answers are_rounds are_one setting clocks is W N run rounds local lawful are =
    sym (merged_setting setting run) ∙ ap (setting_in setting) (are_one setting clocks is clocks.running N (merged run) rounds (are_rounds setting clocks is W N run local lawful) are)

-- those of a replay, and those of a run of any other way that broke off
again_as_one : AreRounds → AreOne → (station : Station) (run : Run) → IsSetting (bare station) station.clocks → (trace : TraceValue)
    → IsReplay (bare station) station.clocks.running station.ticks trace run → (Again trace ≡ InRounds) ⊎ HasNoJoin (bare station) station.clocks.running
    → (alone : Run) → IsRounds (bare station) station.clocks.running station.ticks alone → setting_in (bare station) run ≡ setting_in (bare station) alone
again_as_one are_rounds are_one station run is trace replay (inl alone) = absurd cc
again_as_one are_rounds are_one station run is trace replay (inr local) = λ alone are.
    rounds_answers are_rounds are_one (bare station) station.clocks is trace.window station.ticks run alone local (windows_of_trace (bare station) station.clocks.running station.ticks trace run replay) are

pub begins_as_one : BeginWindows → BeginRounds → AreRounds → AreOne → (station : Station) (run : Run) → IsSetting (bare station) station.clocks → (way : Way)
    → IsBegunIn (bare station) station.clocks.running station.ticks way run → (way ≡ InRounds) ⊎ HasNoJoin (bare station) station.clocks.running
    → (alone : Run) → IsRounds (bare station) station.clocks.running station.ticks alone → BeginsRoundsIn way (bare station) run alone
begins_as_one windows rounds are_rounds are_one station run is InRounds begun determined = λ alone are. rounds (bare station) station.clocks is station.clocks.running station.ticks run alone begun.came.rounds are
begins_as_one windows rounds are_rounds are_one station run is (InWindows window) begun (inl alone) = absurd cc
begins_as_one windows rounds are_rounds are_one station run is (InWindows window) begun (inr local) = λ alone are. windows (bare station) station.clocks is window station.ticks run alone local begun.came.windows are
begins_as_one windows rounds are_rounds are_one station run is (Again trace) begun determined = again_as_one are_rounds are_one station run is trace begun.came.0 determined
