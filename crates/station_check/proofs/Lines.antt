-- The report of a check, line by line.
use Rattle.std.proofs.Common.{◌≡◌, ◌∙◌, ◌<◌, ◌+◌, ℕ, zero, suc, Bool, List, [], ◌∷◌, ◌++◌, Some, length, get_or, take, slice_get, ap, append-nil, append_assoc, arith, refl, sym}
use Rattle.std.proofs.lemmas.Option.{slice_get-get_or}
use Rattle.plan_core.specs.declared.sink.SinkPlan.{SinkPlan}
use Rattle.plan_core.specs.declared.sink.SinkPlan.TheVariants.{Output, Feed}
use Rattle.clock_infer.specs.declared.clock_map.ClockMap.{ClockMap}
use Rattle.plan_core.specs.declared.plan.Plan.{Plan}
use Rattle.plan_core.specs.declared.sink.BufferPlan.{BufferPlan}
use Rattle.run_records.specs.Buffers.{fed_in, feeder, main_of, read_from, reader}
use Rattle.buffer_sides.specs.Sides.{AreFeeders, AreReaders}
use Rattle.stations.specs.Reports.{buffer_line, buffer_lines, checked_lines, joining_line}
use Rattle.stations.specs.Stations.{Station, bare}
use Rattle.station_check.specs.Steps.{IsOf, sink_line}

one_line : (clocks : ClockMap) (mark : ℕ → Bool) (sink : SinkPlan) (sinks : List SinkPlan) → checked_lines clocks mark (sink ∷ sinks) ≡ sink_line clocks mark sink ++ checked_lines clocks mark sinks
one_line clocks mark (Output name node fallible wide) sinks = refl
one_line clocks mark (Feed buffer node) sinks = refl

-- one sink more
pub line_more : (clocks : ClockMap) (mark : ℕ → Bool) (sinks : List SinkPlan) (k : ℕ) (sink : SinkPlan) → slice_get sinks k ≡ Some sink
    → checked_lines clocks mark (take k sinks) ++ sink_line clocks mark sink ≡ checked_lines clocks mark (take (suc k) sinks)
line_more clocks mark [] k sink at = absurd cc
line_more clocks mark (s ∷ sinks) zero sink at =
    let same : s ≡ sink = cc in
    ap (sink_line clocks mark) (sym same) ∙ sym (append-nil (sink_line clocks mark s)) ∙ sym (one_line clocks mark s [])
line_more clocks mark (s ∷ sinks) (suc k) sink at =
    ap (λ ls. ls ++ sink_line clocks mark sink) (one_line clocks mark s (take k sinks))
    ∙ append_assoc (sink_line clocks mark s) (checked_lines clocks mark (take k sinks)) (sink_line clocks mark sink)
    ∙ ap (λ ls. sink_line clocks mark s ++ ls) (line_more clocks mark sinks k sink at)
    ∙ sym (one_line clocks mark s (take (suc k) sinks))

-- one buffer more
pub buffer_more : (station : Station) (plans : List BufferPlan) (first k number : ℕ) (plan : BufferPlan) → slice_get plans k ≡ Some plan → number ≡ first + k
    → buffer_lines station first (take k plans) ++ buffer_line station number plan ≡ buffer_lines station first (take (suc k) plans)
buffer_more station [] first k number plan at is = absurd cc
buffer_more station (p ∷ plans) first zero number plan at is =
    let same : p ≡ plan = cc in
    let here : number ≡ first = omega (arith, is) in
    ap (λ n. buffer_line station n plan) here ∙ ap (buffer_line station first) (sym same) ∙ sym (append-nil (buffer_line station first p))
buffer_more station (p ∷ plans) first (suc k) number plan at is =
    append_assoc (buffer_line station first p) (buffer_lines station (suc first) (take k plans)) (buffer_line station number plan)
    ∙ ap (λ ls. buffer_line station first p ++ ls) (buffer_more station plans (suc first) k number plan at (omega (arith, is)))

-- the line of a buffer names the clocks of its ends
pub line_of_ends : (plan : Plan) (clocks : ClockMap) (station : Station) (fed read : List ℕ) (number : ℕ) (from to : List ℕ) (buffer : BufferPlan)
    → IsOf plan clocks station → AreFeeders plan.sinks fed → AreReaders plan 0 plan.nodes read → number < length fed → number < length read
    → from ≡ get_or clocks.names (main_of (bare station) (get_or fed number 0)) [] → to ≡ get_or clocks.names (main_of (bare station) (get_or read number 0)) []
    → joining_line number from to buffer ≡ buffer_line station number buffer
line_of_ends plan clocks station fed read number from to buffer is feeds reads in_fed in_read from_is to_is =
    let own_feed : get_or fed number 0 ≡ fed_in number station.plan.sinks = feeds number in_fed ∙ ap (λ (p : Plan). fed_in number p.sinks) (sym is.plan_is) in
    let own_read : get_or read number 0 ≡ read_from (bare station) number 0 station.plan.nodes =
    reads (bare station) is.plan_is number in_read ∙ ap (λ (p : Plan). read_from (bare station) number 0 p.nodes) (sym is.plan_is) in
    let names : clocks.names ≡ station.clocks.names = ap (λ (c : ClockMap). c.names) (sym is.clocks_are) in
    ap (λ (name : List ℕ). joining_line number name to buffer)
    (from_is ∙ ap (λ i. get_or clocks.names (main_of (bare station) i) []) own_feed ∙ ap (λ (ns : List (List ℕ)). get_or ns (feeder (bare station) number) []) names)
    ∙ ap (λ (name : List ℕ). joining_line number (get_or station.clocks.names (feeder (bare station) number) []) name buffer)
    (to_is ∙ ap (λ i. get_or clocks.names (main_of (bare station) i) []) own_read ∙ ap (λ (ns : List (List ℕ)). get_or ns (reader (bare station) number) []) names)

-- the lines of the buffers so far, with one more
pub lines_told : (plan : Plan) (clocks : ClockMap) (station : Station) (old text new : List ℕ) (fed read : List ℕ) (number : ℕ) (from to : List ℕ) (buffer : BufferPlan)
    → IsOf plan clocks station → AreFeeders plan.sinks fed → AreReaders plan 0 plan.nodes read → number < length fed → number < length read
    → from ≡ get_or clocks.names (main_of (bare station) (get_or fed number 0)) [] → to ≡ get_or clocks.names (main_of (bare station) (get_or read number 0)) []
    → slice_get plan.buffers number ≡ Some buffer → new ≡ text ++ joining_line number from to buffer
    → text ≡ old ++ buffer_lines station 0 (take number plan.buffers)
    → new ≡ old ++ buffer_lines station 0 (take (number + 1) plan.buffers)
lines_told plan clocks station old text new fed read number from to buffer is feeds reads in_fed in_read from_is to_is at grew told =
    let next : suc number ≡ number + 1 = omega arith in
    grew ∙ ap (λ line. text ++ line) (line_of_ends plan clocks station fed read number from to buffer is feeds reads in_fed in_read from_is to_is)
    ∙ ap (λ front. front ++ buffer_line station number buffer) told
    ∙ append_assoc old (buffer_lines station 0 (take number plan.buffers)) (buffer_line station number buffer)
    ∙ ap (λ lines. old ++ lines) (buffer_more station plan.buffers 0 number number buffer at (omega arith))
    ∙ ap (λ n. old ++ buffer_lines station 0 (take n plan.buffers)) next

pub found_at : {X : Type 0} (xs ys : List X) (k : ℕ) (d : X) → xs ≡ ys → k < length xs → slice_get ys k ≡ Some (get_or xs k d)
found_at xs ys k d same within = ap (λ list. slice_get list k) (sym same) ∙ slice_get-get_or xs k d within
