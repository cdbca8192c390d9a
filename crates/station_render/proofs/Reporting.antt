-- The lines of a report, output by output.
use Rattle.std.proofs.Common.{◌≡◌, ◌<◌, ◌+◌, ◌*◌, ◌∙◌, ◌++◌, ℕ, zero, suc, Bool, List, [], ◌∷◌, length, take, slice_get, get_or, arith, refl, ap, sym, append_assoc, add-one}
use Rattle.std.specs.Prelude.{Some, codes, decimal}
use Rattle.std.proofs.lemmas.List.{append-nil, length-append}
use Rattle.plan_core.specs.declared.sink.SinkPlan.{SinkPlan}
use Rattle.plan_core.specs.declared.sink.SinkPlan.TheVariants.{Output, Feed}
use Rattle.stream_meaning.specs.Instants.{Setting}
use Rattle.stream_meaning.specs.Sinks.{gaps}
use Rattle.plan_core.specs.declared.plan.Plan.{Plan}
use Rattle.plan_core.specs.declared.sink.BufferPlan.{BufferPlan}
use Rattle.run_records.specs.Records.{Run}
use Rattle.buffer_ends.specs.declared.counts.Counts.{Counts}
use Rattle.stations.specs.Stations.{Station, setting_of_run}
use Rattle.stations.specs.Streams.{counts_in, gaps_in_order, gaps_of}
use Rattle.stations.specs.Reports.{answered_line, answered_lines, answers_line, rendered_line, rendered_lines}
use Rattle.station_render.specs.Renders.{written}
use Rattle.station_render.specs.Runs.{counted_lines, counts_from}
use Rattle.station_render.proofs.Lists.{got_is}
use Rattle.station_render.proofs.Creating.{take_more, written_next}

pub count_at : (setting : Setting) (ticks : ℕ) (sinks : List SinkPlan) (k : ℕ) (name : List ℕ) (node : ℕ) (fallible wide : Bool) → slice_get sinks k ≡ Some (Output name node fallible wide)
    → slice_get (counts_in setting ticks sinks) (length (written (take k sinks))) ≡ Some (gaps setting node ticks)
count_at setting ticks [] k name node fallible wide at = absurd (cc)
count_at setting ticks (Output other number free broad ∷ sinks) zero name node fallible wide at =
    let both : Some (Output other number free broad) ≡ Some (Output name node fallible wide) = at in
    let same : number ≡ node = cc in
    ap (λ n. Some (gaps setting n ticks)) same
count_at setting ticks (Output other number free broad ∷ sinks) (suc k) name node fallible wide at = count_at setting ticks sinks k name node fallible wide at
count_at setting ticks (Feed buffer number ∷ sinks) zero name node fallible wide at = absurd (cc)
count_at setting ticks (Feed buffer number ∷ sinks) (suc k) name node fallible wide at = count_at setting ticks sinks k name node fallible wide at

-- an output that is still to come has a place
pub place_below : (sinks : List SinkPlan) (k : ℕ) (name : List ℕ) (node : ℕ) (fallible wide : Bool) → slice_get sinks k ≡ Some (Output name node fallible wide) → length (written (take k sinks)) < length (written sinks)
place_below [] k name node fallible wide at = absurd (cc)
place_below (Output other number free broad ∷ sinks) zero name node fallible wide at = omega arith
place_below (Output other number free broad ∷ sinks) (suc k) name node fallible wide at = let rest = place_below sinks k name node fallible wide at in omega (arith, rest)
place_below (Feed buffer number ∷ sinks) zero name node fallible wide at = absurd (cc)
place_below (Feed buffer number ∷ sinks) (suc k) name node fallible wide at = place_below sinks k name node fallible wide at

lines_both : (station : Station) (run : Run) (xs ys : List SinkPlan) → rendered_lines station run (xs ++ ys) ≡ rendered_lines station run xs ++ rendered_lines station run ys
lines_both station run [] ys = refl
lines_both station run (Output name node fallible wide ∷ xs) ys =
    ap (λ rest. rendered_line name (station.ticks * station.plan.frame) (gaps_of station run node) ++ rest) (lines_both station run xs ys)
    ∙ sym (append_assoc (rendered_line name (station.ticks * station.plan.frame) (gaps_of station run node)) (rendered_lines station run xs) (rendered_lines station run ys))
lines_both station run (Feed buffer node ∷ xs) ys = lines_both station run xs ys

pub lines_next : (station : Station) (run : Run) (sinks : List SinkPlan) (k : ℕ) (name : List ℕ) (node : ℕ) (fallible wide : Bool) → slice_get sinks k ≡ Some (Output name node fallible wide)
    → rendered_lines station run (take (k + 1) sinks) ≡ rendered_lines station run (take k sinks) ++ rendered_line name (station.ticks * station.plan.frame) (gaps_of station run node)
lines_next station run sinks k name node fallible wide at =
    ap (λ n. rendered_lines station run (take n sinks)) (add-one k) ∙ ap (rendered_lines station run) (take_more sinks k (Output name node fallible wide) at)
    ∙ lines_both station run (take k sinks) (Output name node fallible wide ∷ [])
    ∙ ap (λ line. rendered_lines station run (take k sinks) ++ line) (append-nil (rendered_line name (station.ticks * station.plan.frame) (gaps_of station run node)))

pub lines_still : (station : Station) (run : Run) (sinks : List SinkPlan) (k buffer node : ℕ) → slice_get sinks k ≡ Some (Feed buffer node)
    → rendered_lines station run (take (k + 1) sinks) ≡ rendered_lines station run (take k sinks)
lines_still station run sinks k buffer node at =
    ap (λ n. rendered_lines station run (take n sinks)) (add-one k) ∙ ap (rendered_lines station run) (take_more sinks k (Feed buffer node) at)
    ∙ lines_both station run (take k sinks) (Feed buffer node ∷ []) ∙ append-nil (rendered_lines station run (take k sinks))

counts_both : (setting : Setting) (ticks : ℕ) (xs ys : List SinkPlan) → counts_in setting ticks (xs ++ ys) ≡ counts_in setting ticks xs ++ counts_in setting ticks ys
counts_both setting ticks [] ys = refl
counts_both setting ticks (Output name node fallible wide ∷ xs) ys = ap (λ rest. gaps setting node ticks ∷ rest) (counts_both setting ticks xs ys)
counts_both setting ticks (Feed buffer node ∷ xs) ys = counts_both setting ticks xs ys

pub counts_next : (setting : Setting) (ticks : ℕ) (sinks : List SinkPlan) (k : ℕ) (name : List ℕ) (node : ℕ) (fallible wide : Bool) → slice_get sinks k ≡ Some (Output name node fallible wide)
    → counts_in setting ticks (take (k + 1) sinks) ≡ counts_in setting ticks (take k sinks) ++ gaps setting node ticks ∷ []
counts_next setting ticks sinks k name node fallible wide at =
    ap (λ n. counts_in setting ticks (take n sinks)) (add-one k) ∙ ap (counts_in setting ticks) (take_more sinks k (Output name node fallible wide) at)
    ∙ counts_both setting ticks (take k sinks) (Output name node fallible wide ∷ [])

pub counts_still : (setting : Setting) (ticks : ℕ) (sinks : List SinkPlan) (k buffer node : ℕ) → slice_get sinks k ≡ Some (Feed buffer node)
    → counts_in setting ticks (take (k + 1) sinks) ≡ counts_in setting ticks (take k sinks)
counts_still setting ticks sinks k buffer node at =
    ap (λ n. counts_in setting ticks (take n sinks)) (add-one k) ∙ ap (counts_in setting ticks) (take_more sinks k (Feed buffer node) at)
    ∙ counts_both setting ticks (take k sinks) (Feed buffer node ∷ []) ∙ append-nil (counts_in setting ticks (take k sinks))

-- the text after one more line
pub line_more : (station : Station) (run : Run) (plan : Plan) (ticks : ℕ) (counts : List ℕ) (k : ℕ) (name : List ℕ) (node : ℕ) (fallible wide : Bool) (place : ℕ)
    → slice_get plan.sinks k ≡ Some (Output name node fallible wide) → place ≡ length (written (take k plan.sinks))
    → station.plan ≡ plan → station.ticks ≡ ticks → counts ≡ gaps_in_order station run
    → (old new said : List ℕ) (samples : ℕ) → said ≡ name → samples ≡ ticks * plan.frame → new ≡ old ++ rendered_line said samples (get_or counts place 0)
    → old ≡ rendered_lines station run (take k plan.sinks) → new ≡ rendered_lines station run (take (k + 1) plan.sinks)
line_more station run plan ticks counts k name node fallible wide place at place_is plan_is ticks_is counts_are old new said samples said_is samples_are grew before =
    let at_station : slice_get station.plan.sinks k ≡ Some (Output name node fallible wide) = ap (λ (p : Plan). slice_get p.sinks k) plan_is ∙ at in
    let place_station : place ≡ length (written (take k station.plan.sinks)) = place_is ∙ ap (λ (p : Plan). length (written (take k p.sinks))) (sym plan_is) in
    let count : slice_get counts place ≡ Some (gaps_of station run node) =
    ap (λ cs. slice_get cs place) counts_are ∙ ap (slice_get (gaps_in_order station run)) place_station ∙ count_at (setting_of_run station run) station.ticks station.plan.sinks k name node fallible wide at_station in
    let all_samples : samples ≡ station.ticks * station.plan.frame = samples_are ∙ ap (λ n. n * plan.frame) (sym ticks_is) ∙ ap (λ (p : Plan). station.ticks * p.frame) (sym plan_is) in
    grew ∙ ap (λ text. text ++ rendered_line said samples (get_or counts place 0)) before
    ∙ ap (λ line. rendered_lines station run (take k plan.sinks) ++ line)
    (ap (λ t. rendered_line t samples (get_or counts place 0)) said_is ∙ ap (λ n. rendered_line name n (get_or counts place 0)) all_samples
    ∙ ap (rendered_line name (station.ticks * station.plan.frame)) (got_is counts place (gaps_of station run node) 0 count))
    ∙ sym (lines_next station run plan.sinks k name node fallible wide at)

pub one_place : (sinks : List SinkPlan) (k : ℕ) (name : List ℕ) (node : ℕ) (fallible wide : Bool) → slice_get sinks k ≡ Some (Output name node fallible wide)
    → length (written (take (k + 1) sinks)) ≡ length (written (take k sinks)) + 1
one_place sinks k name node fallible wide at = ap length (written_next sinks k name node fallible wide at) ∙ length-append (written (take k sinks)) ((record { name = name; node = node; wide = wide }) ∷ [])

-- the lines of a run's counts
pub counted_are : (run : Run) (buffer : ℕ) (plans : List BufferPlan) → counted_lines buffer (counts_from run buffer plans) ≡ answered_lines run buffer plans
counted_are run buffer [] = refl
counted_are run buffer (plan ∷ plans) =
    ap (λ rest. answered_line run buffer ++ rest) (counted_are run (suc buffer) plans)

counted_step : (buffer k : ℕ) (counts : List Counts) (one : Counts) → slice_get counts k ≡ Some one
    → counted_lines buffer (take (suc k) counts) ≡ counted_lines buffer (take k counts) ++ answers_line (buffer + k) one.accepted one.full one.got one.empty
counted_step buffer k [] one at = absurd (cc)
counted_step buffer zero (x ∷ counts) one at =
    let same : x ≡ one = cc in
    let here : buffer ≡ buffer + 0 = omega arith in
    append-nil (answers_line buffer x.accepted x.full x.got x.empty) ∙ ap (λ (c : Counts). answers_line buffer c.accepted c.full c.got c.empty) same ∙ ap (λ (b : ℕ). answers_line b one.accepted one.full one.got one.empty) here
counted_step buffer (suc k) (x ∷ counts) one at =
    let here : suc buffer + k ≡ buffer + suc k = omega arith in
    let line = answers_line buffer x.accepted x.full x.got x.empty in
    ap (λ rest. line ++ rest) (counted_step (suc buffer) k counts one at ∙ ap (λ (b : ℕ). counted_lines (suc buffer) (take k counts) ++ answers_line b one.accepted one.full one.got one.empty) here)
    ∙ sym (append_assoc line (counted_lines (suc buffer) (take k counts)) (answers_line (buffer + suc k) one.accepted one.full one.got one.empty))

-- both parts of a line
line_joined : (p a b c d e : List ℕ) → p ++ (a ++ b ++ c ++ d ++ e) ≡ p ++ a ++ b ++ c ++ d ++ e
line_joined p a b c d e =
    sym (append_assoc p (a ++ b ++ c ++ d) e)
    ∙ ap (λ x. x ++ e) (sym (append_assoc p (a ++ b ++ c) d) ∙ ap (λ x. x ++ d) (sym (append_assoc p (a ++ b) c) ∙ ap (λ x. x ++ c) (sym (append_assoc p a b))))

-- the text after one more line of a buffer
pub buffer_more : (counts : List Counts) (k : ℕ) (one : Counts) → slice_get counts k ≡ Some one → (first old mid new : List ℕ)
    → old ≡ first ++ counted_lines 0 (take k counts)
    → mid ≡ old ++ (codes "buffer " ++ decimal k ++ codes " accepted " ++ decimal one.accepted ++ codes " full " ++ decimal one.full)
    → new ≡ mid ++ (codes " got " ++ decimal one.got ++ codes " empty " ++ decimal one.empty ++ codes "\n")
    → new ≡ first ++ counted_lines 0 (take (k + 1) counts)
buffer_more counts k one at first old mid new before grew grown =
    let front : List ℕ = codes "buffer " ++ decimal k ++ codes " accepted " ++ decimal one.accepted ++ codes " full " ++ decimal one.full in
    let back : List ℕ = codes " got " ++ decimal one.got ++ codes " empty " ++ decimal one.empty ++ codes "\n" in
    let place : 0 + k ≡ k = omega arith in
    let lines = counted_lines 0 (take k counts) in
    grown ∙ ap (λ x. x ++ back) (grew ∙ ap (λ x. x ++ front) before)
    ∙ append_assoc (first ++ lines) front back ∙ ap (λ x. (first ++ lines) ++ x) (line_joined front (codes " got ") (decimal one.got) (codes " empty ") (decimal one.empty) (codes "\n"))
    ∙ append_assoc first lines (answers_line k one.accepted one.full one.got one.empty)
    ∙ ap (λ x. first ++ x) (sym (ap (λ n. counted_lines 0 (take n counts)) (add-one k) ∙ counted_step 0 k counts one at ∙ ap (λ (b : ℕ). lines ++ answers_line b one.accepted one.full one.got one.empty) place))
