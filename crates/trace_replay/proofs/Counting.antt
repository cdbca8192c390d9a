-- The numbers of the answers of a record.
use Rattle.std.proofs.Common.{◌≡◌, ◌∙◌, ◌++◌, ℕ, Bool, true, false, not, count_by, is_some, is_none, List, [], ◌∷◌, map, flat_map, refl, ap, sym}
use Rattle.std.proofs.lemmas.List.{map-append}
use Rattle.stream_meaning.specs.Instants.{Setting}
use Rattle.run_records.specs.Records.{Run, Window}
use Rattle.buffer_ends.specs.Local.{yes}
use Rattle.buffer_sides.specs.Logs.{told as log_of}
use Rattle.rounds_run.specs.Runs.{counts_of_run, counts_of_windows, logs_of_run}
use Rattle.rounds_run.proofs.Lawful.{none_counted, some_counted}
use Rattle.trace_log.specs.Values.{TraceValue}
use Rattle.trace_records.specs.Traces.{IsRecordOf}
use Rattle.trace_replay.specs.Replays.{counts_in}
use Rattle.trace_turns.specs.Logs.{side_of}

puts_told : (windows : List Window) → flat_map (side_of true) (map log_of windows) ≡ map is_some (flat_map (λ (window : Window). window.0) windows)
puts_told [] = refl
puts_told (window ∷ windows) = ap (λ (bs : List Bool). map is_some window.0 ++ bs) (puts_told windows) ∙ sym (map-append is_some window.0 (flat_map (λ (w : Window). w.0) windows))

takes_told : (windows : List Window) → flat_map (side_of false) (map log_of windows) ≡ map is_some (flat_map (λ (window : Window). window.1) windows)
takes_told [] = refl
takes_told (window ∷ windows) = ap (λ (bs : List Bool). map is_some window.1 ++ bs) (takes_told windows) ∙ sym (map-append is_some window.1 (flat_map (λ (w : Window). w.1) windows))

count_told : (windows : List Window) → counts_in (map log_of windows) ≡ counts_of_windows windows
count_told windows =
    let puts = puts_told windows in
    let takes = takes_told windows in
    let put = flat_map (λ (window : Window). window.0) windows in
    let take = flat_map (λ (window : Window). window.1) windows in
    let accepted : count_by yes (flat_map (side_of true) (map log_of windows)) ≡ count_by is_some put = ap (count_by yes) puts ∙ some_counted put in
    let full : count_by not (flat_map (side_of true) (map log_of windows)) ≡ count_by is_none put = ap (count_by not) puts ∙ none_counted put in
    let got : count_by yes (flat_map (side_of false) (map log_of windows)) ≡ count_by is_some take = ap (count_by yes) takes ∙ some_counted take in
    let empty : count_by not (flat_map (side_of false) (map log_of windows)) ≡ count_by is_none take = ap (count_by not) takes ∙ none_counted take in
    λ i. record { accepted = accepted i; full = full i; got = got i; empty = empty i }

counted_all : (buffers : List (List Window)) → map counts_in (map (map log_of) buffers) ≡ map counts_of_windows buffers
counted_all [] = refl
counted_all (windows ∷ buffers) = λ i. count_told windows i ∷ counted_all buffers i

pub counts_told : (base : Setting) (clocks : ℕ) (trace : TraceValue) (run : Run) → IsRecordOf base clocks trace run → map counts_in trace.buffers ≡ counts_of_run run
counts_told base clocks trace run of = ap (λ (t : TraceValue). map counts_in t.buffers) of.leaves ∙ counted_all run.buffers

pub logs_told : (base : Setting) (clocks : ℕ) (trace : TraceValue) (run : Run) → IsRecordOf base clocks trace run → trace.buffers ≡ logs_of_run run
logs_told base clocks trace run of = ap (λ (t : TraceValue). t.buffers) of.leaves
