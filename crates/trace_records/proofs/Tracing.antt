-- The trace that a record leaves.
use Rattle.std.proofs.Common.{◌≡◌, ◌∙◌, ℕ, zero, suc, List, [], ◌∷◌, length, map, slice_index_or, refl, ap, subst, sym}
use Rattle.clock_infer.specs.declared.clock_map.ClockMap.{ClockMap}
use Rattle.stream_meaning.specs.Instants.{Setting}
use Rattle.stream_meaning.specs.Settings.{IsSetting}
use Rattle.run_records.specs.Ordered.{IsOrdered, text_of_window}
use Rattle.run_records.specs.Records.{AreWindows, Run, Window, setting_in, windows_of}
use Rattle.buffer_ends.specs.Local.{Answers}
use Rattle.buffer_sides.specs.Logs.{told as log_of}
use Rattle.run_records.proofs.Replaying.{text_is_whole}
use Rattle.trace_log.specs.Values.{TraceValue}
use Rattle.trace_records.specs.Listings.{LeadOnward}
use Rattle.trace_records.specs.Traces.{IsAccepted, pair_of, text_of, trace_of}
use Rattle.trace_records.proofs.Leading.{ordered_onward}

pub same_text : (windows : List Window) → map pair_of (map log_of windows) ≡ map text_of_window windows
same_text [] = refl
same_text (w ∷ windows) = ap (λ l. text_of_window w ∷ l) (same_text windows)

pub log_at : (buffers : List (List Window)) (b : ℕ) → slice_index_or (map (map log_of) buffers) b [] ≡ map log_of (slice_index_or buffers b [])
log_at [] b = refl
log_at (windows ∷ buffers) zero = refl
log_at (windows ∷ buffers) (suc b) = log_at buffers b

logs_long : (buffers : List (List Window)) → length (map (map log_of) buffers) ≡ length buffers
logs_long [] = refl
logs_long (windows ∷ buffers) = ap suc (logs_long buffers)

pub ordered_accepted : (base : Setting) (clocks : ClockMap) → IsSetting base clocks → (W N : ℕ) (run : Run) → (lawful : AreWindows base clocks.running W N run) → IsOrdered (setting_in base run) clocks.running lawful.accepted N
    → IsAccepted base clocks.running N (trace_of W N run)
ordered_accepted base clocks is W N run lawful ordered = record {
  ticks = refl;
  buffers = logs_long run.buffers ∙ lawful.buffers;
  ordered = record {
    run = run;
    lawful = lawful;
    told = λ b low. sym (ap (map pair_of) (log_at run.buffers b) ∙ same_text (windows_of run b));
    ordered = ordered;
  };
}

pub onward_accepted : (base : Setting) (clocks : ClockMap) → IsSetting base clocks → (W N : ℕ) (run : Run) → AreWindows base clocks.running W N run → (listing : List ℕ) → LeadOnward base clocks.running listing
    → IsAccepted base clocks.running N (trace_of W N run)
onward_accepted base clocks is W N run lawful listing lead = ordered_accepted base clocks is W N run lawful (ordered_onward base clocks is W N run lawful listing lead)

pub logs_accepted : (base : Setting) (clocks : ClockMap) → IsSetting base clocks → (W N : ℕ) (run : Run) → AreWindows base clocks.running W N run → (logs : List (List Answers)) → logs ≡ map (map log_of) run.buffers
    → (listing : List ℕ) → LeadOnward base clocks.running listing → IsAccepted base clocks.running N (record { ticks = N; window = W; buffers = logs })
logs_accepted base clocks is W N run lawful logs e listing lead =
    subst (λ (l : List (List Answers)). IsAccepted base clocks.running N (record { ticks = N; window = W; buffers = l })) (sym e) (onward_accepted base clocks is W N run lawful listing lead)

pub one_record : (base : Setting) (clocks : ClockMap) → IsSetting base clocks → (N : ℕ) (trace : TraceValue) → (accepted : IsAccepted base clocks.running N trace)
    → (run : Run) → AreWindows base clocks.running trace.window N run → trace ≡ trace_of trace.window N run → accepted.ordered.run ≡ run
one_record base clocks is N trace accepted run lawful e =
    text_is_whole base clocks is trace.window N accepted.ordered.run run accepted.ordered.lawful lawful
    (λ b low. accepted.ordered.told b low ∙ ap (λ (t : TraceValue). text_of t.buffers b) e ∙ ap (map pair_of) (log_at run.buffers b) ∙ same_text (windows_of run b)) accepted.ordered.ordered
