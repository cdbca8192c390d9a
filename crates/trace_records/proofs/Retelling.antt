-- A trace that a record leaves, and its numbers.
use Rattle.std.proofs.Common.{◌≡◌, ◌<◌, ◌∙◌, ℕ, suc, Bool, is_some, List, [], ◌∷◌, length, map, slice_index_or, refl, ap, sym, arith}
use Rattle.clock_infer.specs.declared.clock_map.ClockMap.{ClockMap}
use Rattle.stream_meaning.specs.Instants.{Setting}
use Rattle.stream_meaning.specs.Settings.{IsSetting}
use Rattle.run_records.specs.Ordered.{text_of_window}
use Rattle.run_records.specs.Records.{AreWindows, Run, Window, windows_of}
use Rattle.run_records.proofs.Replaying.{text_is_whole}
use Rattle.buffer_ends.specs.Local.{Answers}
use Rattle.buffer_sides.specs.Logs.{told as log_of}
use Rattle.trace_log.specs.Values.{TraceValue}
use Rattle.trace_records.specs.Passes.{IsTold}
use Rattle.trace_records.specs.Traces.{IsRecordOf, IsAccepted, pair_of, text_of, trace_of}
use Rattle.trace_records.proofs.Fronts.{head_same, no_items, tail_same}
use Rattle.trace_records.proofs.Tracing.{log_at, same_text}

-- windows that are told as those of a record are theirs
log_one : (log : Answers) (window : Window) → pair_of log ≡ text_of_window window → log ≡ log_of window
log_one log window e = let puts : log.puts ≡ map is_some window.0 = ap (λ (p : List Bool × List Bool). p.0) e in
    let takes : log.takes ≡ map is_some window.1 = ap (λ (p : List Bool × List Bool). p.1) e in
    λ i. record { puts = puts i; takes = takes i }

logs_same : (logs : List Answers) (windows : List Window) → map text_of_window windows ≡ map pair_of logs → logs ≡ map log_of windows
logs_same [] [] e = refl
logs_same [] (w ∷ windows) e = absurd (no_items (text_of_window w) (map text_of_window windows) (sym e))
logs_same (l ∷ logs) [] e = absurd (no_items (pair_of l) (map pair_of logs) e)
logs_same (l ∷ logs) (w ∷ windows) e =
    let here = log_one l w (sym (head_same (text_of_window w) (pair_of l) (map text_of_window windows) (map pair_of logs) e)) in
    let more = logs_same logs windows (tail_same (text_of_window w) (pair_of l) (map text_of_window windows) (map pair_of logs) e) in
    λ i. here i ∷ more i

all_same : (logs : List (List Answers)) (buffers : List (List Window)) → length logs ≡ length buffers → ((b : ℕ) → b < length buffers → map text_of_window (slice_index_or buffers b []) ≡ map pair_of (slice_index_or logs b []))
    → logs ≡ map (map log_of) buffers
all_same [] [] long each = refl
all_same [] (w ∷ buffers) long each = absurd (omega (arith, long))
all_same (l ∷ logs) [] long each = absurd (omega (arith, long))
all_same (l ∷ logs) (w ∷ buffers) long each =
    let here = logs_same l w (each 0 (omega arith)) in
    let more = all_same logs buffers (omega (arith, long)) (λ b low. each (suc b) (omega (arith, low))) in
    λ i. here i ∷ more i

-- the record of an accepted trace leaves it
pub record_of : (base : Setting) (clocks : ℕ) (trace : TraceValue) → (accepted : IsAccepted base clocks trace.ticks trace) → IsRecordOf base clocks trace accepted.ordered.run
record_of base clocks trace accepted =
    let run = accepted.ordered.run in
    let buffers : trace.buffers ≡ map (map log_of) run.buffers =
    all_same trace.buffers run.buffers (accepted.buffers ∙ sym accepted.ordered.lawful.buffers)
    (λ b low. accepted.ordered.told b (let many = accepted.ordered.lawful.buffers in omega (arith, low, many))) in
    record {
      lawful = accepted.ordered.lawful;
      ordered = accepted.ordered.ordered;
      leaves = λ i. record { ticks = trace.ticks; window = trace.window; buffers = buffers i };
    }

-- and what the trace tells is told of it
pub told_by : (base : Setting) (clocks : ℕ) (trace : TraceValue) (run : Run) → IsRecordOf base clocks trace run → IsTold base (text_of trace.buffers) run
told_by base clocks trace run of b low = sym (ap (λ (t : TraceValue). text_of t.buffers b) of.leaves ∙ ap (map pair_of) (log_at run.buffers b) ∙ same_text (windows_of run b))

-- a record whose ticks can be ordered is the one of a run that left the trace
pub run_told : (base : Setting) (clocks : ClockMap) → IsSetting base clocks → (trace : TraceValue) (run other : Run) → IsRecordOf base clocks.running trace run
    → AreWindows base clocks.running trace.window trace.ticks other → trace ≡ trace_of trace.window trace.ticks other → run ≡ other
run_told base clocks is trace run other of lawful e =
    text_is_whole base clocks is trace.window trace.ticks run other of.lawful lawful
    (λ b low. told_by base clocks.running trace run of b low ∙ ap (λ (t : TraceValue). text_of t.buffers b) e ∙ ap (map pair_of) (log_at other.buffers b) ∙ same_text (windows_of other b)) of.ordered
