-- A run by threads is rendered again by its trace.
use Rattle.std.proofs.Common.{◌≡◌, ◌<◌, ◌≤◌, ◌++◌, ◌∙◌, ℕ, List, [], ◌∷◌, refl, sym, ap, subst, append_assoc, false}
use Rattle.std.specs.Prelude.{◌^◌, IsSomeAnd, None, Option, Some}
use Rattle.liq_base.specs.Files.{Files, file_at}
use Rattle.liq_base.specs.Names.{this_name}
use Rattle.liq_base.specs.Shelves.{ShelfTold}
use Rattle.clock_infer.specs.declared.clock_map.ClockMap.{ClockMap}
use Rattle.stream_meaning.specs.Instants.{Setting}
use Rattle.stream_meaning.specs.Settings.{IsSetting}
use Rattle.run_records.specs.Records.{AreWindows, Run}
use Rattle.trace_log.specs.Texts.{IsTrace, trace_text}
use Rattle.trace_log.specs.Values.{TraceValue}
use Rattle.trace_records.specs.Traces.{IsRecordOf, IsAccepted, trace_of}
use Rattle.stations.specs.Cues.{cue_files}
use Rattle.stations.specs.Findings.{IsFit}
use Rattle.stations.specs.Outputs.{OutputFile, with_outputs}
use Rattle.stations.specs.Reports.{report_of}
use Rattle.stations.specs.Stations.{InWindows, IsLawful, IsLawfulIn, Station, Way, bare}
use Rattle.stations.specs.Streams.{output_files}
use Rattle.stations.specs.Traces.{files_of, traced, traces_in, traces_of}
use Rattle.stations.proofs.Parts.{both_outputs}
use Rattle.station_render.proofs.Tracing.{is_trace}
use Rattle.liq_cli.specs.Again.{IsRenderedAgain, again}
use Rattle.station_jobs.specs.Verdicts.{IsPrepared}
use Rattle.station_jobs.specs.Words.{rendering_by}
use Rattle.station_jobs.specs.Jobs.{Wrote}
use Rattle.station_jobs.specs.Replays.{HasText}

-- the file that was written last holds its bytes
last_file : (files : Files) (front : List OutputFile) (name bytes : List ℕ) → file_at (with_outputs files (front ++ (record { name = name; bytes = bytes }) ∷ [])) name ≡ Some bytes
last_file files front name bytes =
    ap (λ fs. file_at fs name) (both_outputs files front ((record { name = name; bytes = bytes }) ∷ [])) ∙ this_name (with_outputs files front) name bytes

-- the trace is the last file of a run by threads that leaves one
left_in : (station : Station) (run : Run) (files : Files) (window : ℕ) (name : List ℕ) → station.way ≡ InWindows window → station.trace ≡ Some name
    → file_at (with_outputs files (files_of station run)) name ≡ Some (trace_text (trace_of window station.ticks run))
left_in station run files window name is named =
    let trace : List OutputFile = (record { name = name; bytes = trace_text (trace_of window station.ticks run) }) ∷ [] in
    let traces : traces_of station run ≡ trace = ap (λ (way : Way). traces_in way station run) is ∙ ap (λ n. traced n (trace_of window station.ticks run)) named in
    let outputs = output_files station run in
    let cues = cue_files station run in
    ap (λ (all : List OutputFile). file_at (with_outputs files all) name) (ap (λ (last : List OutputFile). outputs ++ (cues ++ last)) traces ∙ sym (append_assoc outputs cues trace))
    ∙ last_file files (outputs ++ cues) name (trace_text (trace_of window station.ticks run))

pub left_trace : (files : Files) (station : Station) (old new : ShelfTold) (report : List ℕ) (window : ℕ) (name : List ℕ) → (wrote : Wrote station files old new report)
    → station.way ≡ InWindows window → station.trace ≡ Some name → IsSomeAnd new.files (λ later. file_at later name ≡ Some (trace_text (trace_of window station.ticks wrote.run)))
left_trace files station old new report window name wrote is named =
    subst (λ (now : Option Files). IsSomeAnd now (λ later. file_at later name ≡ Some (trace_text (trace_of window station.ticks wrote.run)))) (sym wrote.written)
    (left_in station wrote.run files window name is named)

-- a plan that fits has a meaning
pub fit_setting : (station : Station) → IsFit station.plan station.library station.clocks station.ticks → station.start < 604800 → IsSetting (bare station) station.clocks
fit_setting station fit start =
    record { plan = fit.plan_is; map = fit.map; each = refl; library = fit.sounds; leaves = fit.leaves; singles = fit.singles; start = start }

-- the law of traces that is needed here
abbrev AreOfRun : Type 0
AreOfRun = (base : Setting) (clocks : ClockMap) → IsSetting base clocks → (trace : TraceValue) (run other : Run) → IsRecordOf base clocks.running trace run
    → AreWindows base clocks.running trace.window trace.ticks other → trace ≡ trace_of trace.window trace.ticks other → run ≡ other

-- a run by threads has a record of its windows
pub in_windows : (station : Station) (window : ℕ) (run : Run) → station.way ≡ InWindows window → IsLawful station run → AreWindows (bare station) station.clocks.running window station.ticks run
in_windows station window run way lawful = subst (λ w. IsLawfulIn (bare station) station.clocks.running station.ticks w run) way lawful

pub rendered_again : AreOfRun → (files : Files) (file name : List ℕ) (station : Station) (window : ℕ) (run : Run)
    → station.way ≡ InWindows window → 1 ≤ window → window ≤ 10 ^ 6 → IsFit station.plan station.library station.clocks station.ticks → station.start < 604800 → IsLawful station run
    → IsAccepted (bare station) station.clocks.running station.ticks (trace_of window station.ticks run) → HasText files name (trace_text (trace_of window station.ticks run))
    → IsPrepared files (rendering_by file station.start station.ticks None false) station.plan station.library station.clocks → IsRenderedAgain files file name station (trace_of window station.ticks run) run
rendered_again of_run files file name station window run way some few fit early lawful accepted has prepared =
    let trace : TraceValue = trace_of window station.ticks run in
    let is : IsSetting (bare station) station.clocks = fit_setting station fit early in
    let windows : AreWindows (bare station) station.clocks.running window station.ticks run = in_windows station window run way lawful in
    let form : IsTrace trace = is_trace (bare station) station.clocks.running window station.ticks run trace.buffers fit.plan_is fit.few some few windows refl in
    let one : (other : Run) → IsLawful (again station trace) other → other ≡ run = λ other told. of_run (bare station) station.clocks is trace other run told.of windows refl in
    record {
      verdict = record {
        prepared = prepared;
        is_way = record {
          trace = trace;
          fitting = record {
            has = record { text = trace_text trace; has = has; is_trace = form; text_is = refl };
            fits = accepted;
          };
          way_is = refl;
        };
        rest_is = refl;
      };
      one = one;
      outputs_are = λ other told. ap (output_files (again station trace)) (one other told);
      report_is = λ other told. ap (report_of (again station trace)) (one other told);
    }
