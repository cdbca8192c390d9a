-- The lines of a summary, output by output.
use Rattle.std.proofs.Common.{◌≡◌, ◌+◌, ◌*◌, ◌∙◌, ◌++◌, ℕ, Bool, List, [], ◌∷◌, length, take, slice_get, get_or, refl, ap, sym, append_assoc, add-one, append-nil}
use Rattle.std.specs.Prelude.{Some}
use Rattle.liq_base.specs.Files.{Files}
use Rattle.plan_core.specs.declared.plan.Plan.{Plan}
use Rattle.plan_core.specs.declared.sink.SinkPlan.{SinkPlan}
use Rattle.plan_core.specs.declared.sink.SinkPlan.TheVariants.{Output, Feed}
use Rattle.run_records.specs.Records.{Run}
use Rattle.stations.specs.Stations.{Station, setting_of_run}
use Rattle.stations.specs.Streams.{gaps_in_order, gaps_of}
use Rattle.station_render.specs.Renders.{written}
use Rattle.station_render.proofs.Creating.{take_more}
use Rattle.station_render.proofs.Lists.{got_is}
use Rattle.station_render.proofs.Reporting.{count_at}
use Rattle.stations.specs.Reports.{counted_part}
use Rattle.station_jobs.specs.Summary.{sum_at, sum_part, summed_line, summed_lines}

lines_both : (station : Station) (run : Run) (files : Files) (xs ys : List SinkPlan) → summed_lines station run files (xs ++ ys) ≡ summed_lines station run files xs ++ summed_lines station run files ys
lines_both station run files [] ys = refl
lines_both station run files (Output name node fallible wide ∷ xs) ys =
    ap (λ rest. summed_line name (station.ticks * station.plan.frame) (gaps_of station run node) (sum_at files name) ++ rest) (lines_both station run files xs ys)
    ∙ sym (append_assoc (summed_line name (station.ticks * station.plan.frame) (gaps_of station run node) (sum_at files name)) (summed_lines station run files xs) (summed_lines station run files ys))
lines_both station run files (Feed buffer node ∷ xs) ys = lines_both station run files xs ys

lines_next : (station : Station) (run : Run) (files : Files) (sinks : List SinkPlan) (k : ℕ) (name : List ℕ) (node : ℕ) (fallible wide : Bool) → slice_get sinks k ≡ Some (Output name node fallible wide)
    → summed_lines station run files (take (k + 1) sinks)
    ≡ summed_lines station run files (take k sinks) ++ summed_line name (station.ticks * station.plan.frame) (gaps_of station run node) (sum_at files name)
lines_next station run files sinks k name node fallible wide at =
    ap (λ n. summed_lines station run files (take n sinks)) (add-one k) ∙ ap (summed_lines station run files) (take_more sinks k (Output name node fallible wide) at)
    ∙ lines_both station run files (take k sinks) (Output name node fallible wide ∷ [])
    ∙ ap (λ line. summed_lines station run files (take k sinks) ++ line) (append-nil (summed_line name (station.ticks * station.plan.frame) (gaps_of station run node) (sum_at files name)))

-- a feed has no line
pub lines_still : (station : Station) (run : Run) (files : Files) (sinks : List SinkPlan) (k buffer node : ℕ) → slice_get sinks k ≡ Some (Feed buffer node)
    → summed_lines station run files (take (k + 1) sinks) ≡ summed_lines station run files (take k sinks)
lines_still station run files sinks k buffer node at =
    ap (λ n. summed_lines station run files (take n sinks)) (add-one k) ∙ ap (summed_lines station run files) (take_more sinks k (Feed buffer node) at)
    ∙ lines_both station run files (take k sinks) (Feed buffer node ∷ []) ∙ append-nil (summed_lines station run files (take k sinks))

-- the text after one more line
pub line_more : (station : Station) (run : Run) (plan : Plan) (files : Files) (ticks : ℕ) (counts : List ℕ) (k : ℕ) (name : List ℕ) (node : ℕ) (fallible wide : Bool) (place : ℕ)
    → slice_get plan.sinks k ≡ Some (Output name node fallible wide) → place ≡ length (written (take k plan.sinks))
    → station.plan ≡ plan → station.ticks ≡ ticks → counts ≡ gaps_in_order station run
    → (old mid new said : List ℕ) (samples : ℕ) → said ≡ name → samples ≡ ticks * plan.frame
    → mid ≡ old ++ counted_part said samples (get_or counts place 0) → new ≡ mid ++ sum_part (sum_at files said)
    → old ≡ summed_lines station run files (take k plan.sinks) → new ≡ summed_lines station run files (take (k + 1) plan.sinks)
line_more station run plan files ticks counts k name node fallible wide place at place_is plan_is ticks_is counts_are old mid new said samples said_is samples_are counted summed before =
    let at_station : slice_get station.plan.sinks k ≡ Some (Output name node fallible wide) = ap (λ (p : Plan). slice_get p.sinks k) plan_is ∙ at in
    let place_station : place ≡ length (written (take k station.plan.sinks)) = place_is ∙ ap (λ (p : Plan). length (written (take k p.sinks))) (sym plan_is) in
    let count : slice_get counts place ≡ Some (gaps_of station run node) =
    ap (λ cs. slice_get cs place) counts_are ∙ ap (slice_get (gaps_in_order station run)) place_station ∙ count_at (setting_of_run station run) station.ticks station.plan.sinks k name node fallible wide at_station in
    let all_samples : samples ≡ station.ticks * station.plan.frame = samples_are ∙ ap (λ n. n * plan.frame) (sym ticks_is) ∙ ap (λ (p : Plan). station.ticks * p.frame) (sym plan_is) in
    let front = counted_part said samples (get_or counts place 0) in
    let back = sum_part (sum_at files said) in
    summed ∙ ap (λ text. text ++ back) (counted ∙ ap (λ text. text ++ front) before) ∙ append_assoc (summed_lines station run files (take k plan.sinks)) front back
    ∙ ap (λ line. summed_lines station run files (take k plan.sinks) ++ line)
    (ap (λ t. summed_line t samples (get_or counts place 0) (sum_at files t)) said_is ∙ ap (λ n. summed_line name n (get_or counts place 0) (sum_at files name)) all_samples
    ∙ ap (λ gaps. summed_line name (station.ticks * station.plan.frame) gaps (sum_at files name)) (got_is counts place (gaps_of station run node) 0 count))
    ∙ sym (lines_next station run files plan.sinks k name node fallible wide at)
