-- A buffer that has room for two windows and its prefill, and whose reader is always heard, refuses no put: in a lawful record, and in that
-- of a run that was broken off.
use Rattle.std.proofs.Common.{◌≡◌, ◌<◌, ◌≤◌, ◌+◌, ◌-◌, ◌*◌, ℕ, zero, suc, max, min, false, List, [], ◌∷◌, ◌++◌, length, Some, slice_get, flat_map, inr, refl, ap, sym, subst, ◌∙◌, arith, append-nil, length-append, None, is_none, true≢false}
use Rattle.std.specs.Int.{div_ceil}
use Rattle.std.specs.List.{count_by}
use Rattle.std.proofs.lemmas.Grind.{div_ceil_times}
use Rattle.std.proofs.Math.Nat.{mul-div_cancel, mul-mod_left, suc-mul}
use Rattle.frame_core.specs.declared.cell.Cell.{Cell}
use Rattle.frame_core.specs.Legal.{IsHistory}
use Rattle.frame_core.specs.Calls.{Call, puts_to, takes_of, Answer}
use Rattle.plan_core.specs.declared.node.Node.{Node}
use Rattle.plan_core.specs.declared.sink.SinkPlan.TheVariants.{Feed}
use Rattle.plan_core.specs.Plans.{ReadsBuffer}
use Rattle.clock_infer.specs.declared.clock_map.ClockMap.{ClockMap}
use Rattle.stream_meaning.specs.Operators.{Reads}
use Rattle.stream_meaning.specs.Settings.{IsSetting}
use Rattle.stream_meaning.specs.Instants.{Setting, answered, prefill, new_reading, work_at}
use Rattle.stream_meaning.specs.Calls.{joined_between}
use Rattle.stream_meaning.proofs.Sorted.{reads_op}
use Rattle.run_records.proofs.Ticking.{is_answered}
use Rattle.run_records.specs.Buffers.{feeder, reader}
use Rattle.run_records.specs.Heard.{HasRoom, IsHeard, prefill_ticks}
use Rattle.run_records.specs.Pace.{AreSmall, AreTicks, IsDrawn, KeepPace, has_none}
use Rattle.run_records.specs.Records.{AreWindows, AreWindowsBegun, Run, Window, answers_of, calls_in, capacity_of, puts_of, setting_then, start, windows_in, windows_of}
use Rattle.run_records.proofs.Flattening.{all_puts, flat_snoc, puts-append}
use Rattle.run_records.proofs.Heard.{heard_is_drawn, heard_runs, heard_with}
use Rattle.run_records.proofs.Owing.{windows_keep_pace}
use Rattle.run_records.proofs.Pace.{has_none-append, most_left, none_refused, room}
use Rattle.run_records.proofs.Paced.{drawn_ticks, start_next}
use Rattle.run_records.proofs.Putting.{window_puts}
use Rattle.run_records.proofs.Resting.{run_split}
use Rattle.run_records.proofs.Roomy.{roomy_buffers_refuse_nothing}
use Rattle.run_records.proofs.Short.{each_small, from_empty, in_small, small_append, small_left, upto_small}

none_counted : (puts : List Answer) → has_none puts ≡ false → count_by is_none puts ≡ 0
none_counted [] e = refl
none_counted (None ∷ puts) e = absurd (true≢false e)
none_counted (Some chunk ∷ puts) e = none_counted puts e

-- the prefill in whole ticks
held_by : (ticks pre frame : ℕ) → 1 ≤ frame → pre ≤ ticks * frame → max 1 pre ≤ suc (max 1 ticks - 1) * frame
held_by zero pre frame some low = omega (arith, some, low)
held_by (suc d) pre frame some low =
    let one : max 1 (suc d) - 1 ≡ d = omega arith in
    let more = suc-mul d frame in
    subst (λ (n : ℕ). max 1 pre ≤ suc n * frame) (sym one) (omega (arith, some, low, more))

pub prefill_held : (setting : Setting) (buffer : ℕ) → 1 ≤ setting.plan.frame → max 1 (prefill setting buffer) ≤ suc (prefill_ticks setting buffer - 1) * setting.plan.frame
prefill_held setting buffer some =
    held_by (div_ceil (prefill setting buffer) setting.plan.frame) (prefill setting buffer) setting.plan.frame some
    (div_ceil_times (prefill setting buffer) setting.plan.frame (omega (arith, some))).0

-- of whole ticks
whole_ticks : (ticks frame : ℕ) → 1 ≤ frame → div_ceil (ticks * frame) frame ≡ ticks
whole_ticks ticks frame some =
    let whole = mul-div_cancel ticks {n = frame} (omega (arith, some)) in
    let none = mul-mod_left ticks frame in
    (λ i. whole i + min 1 (none i)) ∙ omega arith

pub whole_ticks_have_room : (setting : Setting) (W buffer gathers holds : ℕ) → 1 ≤ setting.plan.frame → 1 ≤ gathers → prefill setting buffer ≡ gathers * setting.plan.frame
    → capacity_of setting buffer ≡ holds → W + W + gathers ≤ suc holds → HasRoom setting W buffer
whole_ticks_have_room setting W buffer gathers holds frame some pre capacity fits =
    let ticks : prefill_ticks setting buffer ≡ max 1 gathers = ap (λ (n : ℕ). max 1 (div_ceil n setting.plan.frame)) pre ∙ ap (max 1) (whole_ticks gathers setting.plan.frame frame) in
    omega (arith, ticks, capacity, some, fits)

-- windows that keep pace refuse nothing, and neither does one more of at most W puts
then_none : (C W D : ℕ) → W + W + D ≤ C → (windows : List Window) (last : Window) (rest : List (List Cell)) → KeepPace W D D windows → length last.0 ≤ W
    → IsHistory C [] (windows ++ last ∷ []) rest → has_none (flat_map (λ (w : Window). w.0) (windows ++ last ∷ [])) ≡ false
then_none C W D wide windows last rest pace few run =
    let parted = run_split C [] rest windows last run in
    let left = most_left C W D wide D [] parted.0 windows (omega arith) pace parted.1 in
    subst (λ (l : List Answer). has_none l ≡ false) (sym (flat_snoc (λ (w : Window). w.0) windows last))
    (has_none-append (flat_map (λ (w : Window). w.0) windows) last.0
    (none_refused C W D wide D [] parted.0 windows (omega arith) pace parted.1)
    (room (omega (arith, left, few, wide)) parted.2))

module _ (setting : Setting) (clocks : ClockMap) (is : IsSetting setting clocks) (W N b m : ℕ) (above : List ℕ) (i : ℕ) (run : Run)
    (reads : ReadsBuffer setting.plan b i) (heard : IsHeard setting m above i) (fits : HasRoom setting W b) where
  abbrev D : ℕ
  D = prefill_ticks setting b - 1

  known : b < length setting.plan.buffers
  known = is.plan.read b i reads

  low : max 1 (prefill setting b) ≤ suc D * setting.plan.frame
  low = prefill_held setting b is.plan.frame.0

  wide : W + W + D ≤ capacity_of setting b
  wide = omega (arith, fits)

  runs : m < clocks.running
  runs = heard_runs setting clocks is m above i heard

  drawn : (answers : ℕ → List Answer) → IsDrawn (answered setting answers) b m i reads.0
  drawn answers = heard_is_drawn (answered setting answers) clocks (is_answered setting clocks is answers) m b above i reads.0 reads.1 reads.2 (heard_with setting answers m above i heard)

  lawful_none : AreWindows setting clocks.running W N run → has_none (puts_of run b) ≡ false
  lawful_none lawful = roomy_buffers_refuse_nothing setting clocks is W N D b m i reads.0 run lawful known (drawn (answers_of run)) runs low wide

  module _ (begun : AreWindowsBegun setting clocks.running W N run) where
    abbrev none : ℕ → List Answer
    none buffer = []

    abbrev S : Setting
    S = setting_then setting run none

    abbrev from : ℕ
    from = start W N begun.closed

    abbrev feeds : ℕ → List Call
    feeds = calls_in S clocks.running begun.accepted (feeder S b)

    abbrev closed : List Window
    closed = windows_in S clocks.running begun.accepted b W N begun.closed

    abbrev last : Window
    last = (puts_to b (begun.since (feeder setting b)), takes_of b (begun.since (reader setting b)))

    windows : windows_of run b ≡ closed ++ last ∷ []
    windows = begun.are none b known

    only : (k : ℕ) (other : Node) → slice_get setting.plan.nodes k ≡ Some other → work_at setting k other ≡ Reads b → k ≡ i
    only k other at does = (let one = is.plan.one_reader b known in one.2 k (other, at, reads_op setting.plan.rate k other.kind other.op b does) ∙ sym (one.2 i reads))

    fed : (p q x y : ℕ) → slice_get setting.plan.sinks p ≡ Some (Feed b x) → slice_get setting.plan.sinks q ≡ Some (Feed b y) → p ≡ q
    fed p q x y at also = (let one = is.plan.one_feed b known in one.2 p (x, at) ∙ sym (one.2 q (y, also)))

    ticks : AreTicks W (S.answers b) (new_reading S b).reader closed
    ticks = drawn_ticks S clocks.running begun.accepted b W N m i reads.0 (drawn S.answers) is.plan.frame.0 only fed (drawn S.answers).reads runs begun.closed

    -- the puts of the last window begin those of a whole one
    abbrev whole : List Call
    whole = joined_between feeds from (begun.tried (feeder setting b))

    split : puts_to b whole ≡ last.0 ++ puts_to b (begun.begun none (feeder setting b)).rest
    split = ap (puts_to b) (begun.begun none (feeder setting b)).are ∙ puts-append b (begun.since (feeder setting b)) (begun.begun none (feeder setting b)).rest

    few : length last.0 ≤ W
    few =
        let within = begun.within (feeder setting b) in
        let most = window_puts S clocks.running begun.accepted b (feeder setting b) from (begun.tried (feeder setting b)) fed in
        let up = start_next W N begun.closed in
        let end = within.most in
        let parts = ap (λ (l : List Answer). length l) split in
        let long = length-append last.0 (puts_to b (begun.begun none (feeder setting b)).rest) in
        omega (arith, most, up, end, parts, long)

    last_small : AreSmall setting.plan.frame last.0
    last_small = small_left setting.plan.frame last.0 (puts_to b (begun.begun none (feeder setting b)).rest)
        (subst (AreSmall setting.plan.frame) split
        (each_small S b (λ j. feeds (from + j)) (begun.tried (feeder setting b) - from) (λ j. in_small S b clocks.running begun.accepted (feeder setting b) (from + j))))

    puts_small : AreSmall setting.plan.frame (flat_map (λ (w : Window). w.0) (closed ++ last ∷ []))
    puts_small = subst (AreSmall setting.plan.frame) (sym (flat_snoc (λ (w : Window). w.0) closed last))
        (small_append setting.plan.frame (flat_map (λ (w : Window). w.0) closed) last.0
        (subst (AreSmall setting.plan.frame) (sym (all_puts S clocks.running begun.accepted b W N begun.closed)) (upto_small S b clocks.running begun.accepted (feeder setting b) from)) last_small)

    small : AreSmall setting.plan.frame (S.answers b)
    small = (let legal = begun.legal b known in
        subst (AreSmall setting.plan.frame) (sym (append-nil (answers_of run b)))
        (from_empty setting.plan.frame (capacity_of setting b) legal.0 (windows_of run b) (subst (λ (l : List Window). AreSmall setting.plan.frame (flat_map (λ (w : Window). w.0) l)) (sym windows) puts_small) legal.1))

    begun_none : has_none (puts_of run b) ≡ false
    begun_none =
        (let legal = begun.legal b known in
        let held : 1 ≤ max 1 (prefill setting b) = omega arith in
        let pace = windows_keep_pace D W closed (S.answers b) (new_reading S b).reader
        (record { some = is.plan.frame.0; held = held; low = low; small = small }) D (omega arith, inr (refl, held, refl)) ticks in
        subst (λ (l : List Window). has_none (flat_map (λ (w : Window). w.0) l) ≡ false) (sym windows)
        (then_none (capacity_of setting b) W D wide closed last legal.0 pace few (subst (λ (l : List Window). IsHistory (capacity_of setting b) [] l legal.0) windows legal.1)))

pub heard_buffers_refuse_nothing : (setting : Setting) (clocks : ClockMap) → IsSetting setting clocks → (W N buffer m : ℕ) (above : List ℕ) (i : ℕ) (run : Run) → ReadsBuffer setting.plan buffer i
    → IsHeard setting m above i → HasRoom setting W buffer → AreWindows setting clocks.running W N run → count_by is_none (puts_of run buffer) ≡ 0
heard_buffers_refuse_nothing setting clocks is W N buffer m above i run reads heard fits lawful = none_counted (puts_of run buffer) (lawful_none setting clocks is W N buffer m above i run reads heard fits lawful)

pub broken_windows_refuse_nothing : (setting : Setting) (clocks : ClockMap) → IsSetting setting clocks → (W N buffer m : ℕ) (above : List ℕ) (i : ℕ) (run : Run) → ReadsBuffer setting.plan buffer i
    → IsHeard setting m above i → HasRoom setting W buffer → AreWindowsBegun setting clocks.running W N run → count_by is_none (puts_of run buffer) ≡ 0
broken_windows_refuse_nothing setting clocks is W N buffer m above i run reads heard fits begun = none_counted (puts_of run buffer) (begun_none setting clocks is W N buffer m above i run reads heard fits begun)
