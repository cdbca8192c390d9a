-- Passes over clocks whose engines go on.
use Rattle.std.proofs.Common.{◌≡◌, ◌≢◌, ◌<◌, ◌≤◌, ◌-◌, ◌*◌, ◌∙◌, ◌++◌, ℕ, List, [], ◌∷◌, Some, length, slice_get, inl, inr, refl, ap, sym, subst, arith, get_or-set_same, get_or-set_other, length-set}
use Rattle.std.specs.Prelude.{slice_set}
use Rattle.std.proofs.lemmas.Bool.{cases_eq}
use Rattle.clock_infer.specs.declared.clock_map.ClockMap.{ClockMap}
use Rattle.clock_infer.proofs.Exact.{some_inj}
use Rattle.clock_outputs.proofs.Places.{slice_get-set_other, slice_get-set_same}
use Rattle.plan_core.proofs.Lists.{one_more}
use Rattle.stream_meaning.specs.Instants.{Setting}
use Rattle.stream_meaning.specs.Settings.{IsSetting}
use Rattle.trace_turns.specs.declared.ends.Ends.{Ends}
use Rattle.trace_turns.specs.declared.live.LiveClock.{LiveClock}
use Rattle.trace_records.specs.Clocks.{Log}
use Rattle.trace_records.specs.Passes.{IsOrderedText, IsRefused}
use Rattle.trace_records.proofs.Passing.{refused_none}
use Rattle.trace_turns.specs.Answering.{BufferState}
use Rattle.trace_turns.specs.declared.course.TurnMade.{TurnMade}
use Rattle.trace_turns.specs.declared.told.Mark.{Mark}
use Rattle.trace_turns.proofs.Searching.{made_of, total, AreLive}
use Rattle.trace_turns.specs.Live.{AreNewClocks, HasFlownOn, IsNewClock, IsPaused, mains}
use Rattle.trace_turns.specs.Orders.{AreTurns, no_chunks, no_ticks}
use Rattle.trace_turns.specs.Thin.{AreFull, AreKept, AreUnlost}
use Rattle.trace_turns.specs.Turns.{AreFit, AreSides, chunks_of}
use Rattle.trace_turns.proofs.Finding.{at_next, begin_passes, counts_next, done_here, few_left}
use Rattle.trace_turns.proofs.Flowing.{told_full}
use Rattle.trace_turns.proofs.Ordering.{led_all, led_more, led_none}
use Rattle.trace_turns.proofs.Resuming.{new_paused, waits_on}
use Rattle.trace_turns.proofs.Thinning.{full_kept}
use Rattle.trace_records.proofs.Turning.{chunks_stay}
use Rattle.trace_turns.specs.Timed.{timed}

-- one clock more
pub new_more : (base : Setting) (lives more : List LiveClock) (live : LiveClock) (count : ℕ) → more ≡ lives ++ live ∷ [] → length lives ≡ count → ((k : ℕ) (one : LiveClock) → slice_get lives k ≡ Some one → IsNewClock base k one)
    → IsNewClock base count live → (k : ℕ) (one : LiveClock) → slice_get more k ≡ Some one → IsNewClock base k one
new_more base lives more live count are size each last k one at = elim (one_more lives live k one (sym (ap (λ (l : List LiveClock). slice_get l k) are) ∙ at)) [
  | inl old ↦ each k one old.1
  | inr new ↦ subst (λ (j : ℕ). IsNewClock base j one) (sym (new.0 ∙ size)) (subst (IsNewClock base count) new.1 last)
]

-- of each clock, where one of them changed
each_set : (lives : List LiveClock) (m : ℕ) (new : LiveClock) (P : ℕ → LiveClock → Type 0) → m < length lives → ((k : ℕ) (live : LiveClock) → k ≢ m → slice_get lives k ≡ Some live → P k live) → P m new
    → (k : ℕ) (live : LiveClock) → slice_get (slice_set lives m new) k ≡ Some live → P k live
each_set lives m new P low others here k live at = elim (cases_eq k m) [
  | inl same ↦ (let put : Some new ≡ Some live = sym (slice_get-set_same lives m new low) ∙ sym (ap (slice_get (slice_set lives m new)) same) ∙ at in
      subst (λ (j : ℕ). P j live) (sym same) (subst (P m) (some_inj put) here))
  | inr other ↦ others k live other (sym (slice_get-set_other lives m k new (λ e. other (sym e))) ∙ at)
]

module _ (base : Setting) (clocks : ClockMap) (is : IsSetting base clocks) (W N : ℕ) (feeders readers : List ℕ) (sides : AreSides base feeders readers) (ends : List Ends) (first : List BufferState) where
  abbrev Live : List LiveClock → List ℕ → ℕ → List TurnMade → List BufferState → Type 0
  Live lives made left turns states = AreLive base clocks W N feeders readers ends first lives made left turns states

  -- before the first pass
  pub begin_live : (lives : List LiveClock) (made : List ℕ) (left : ℕ) (turns : List TurnMade) → AreNewClocks base clocks.running lives → length made ≡ clocks.running → ((k : ℕ) → made_of made k ≡ 0) → total made ≡ 0 → left ≡ clocks.running * N
      → turns ≡ [] → AreKept first → ((b : ℕ) → chunks_of first b ≡ []) → (some : (text : ℕ → Log) × AreFit base W N text first ends) → Live lives made left turns first
  begin_live lives made left turns new size none sum count no_turn kept empty some = record {
    size = size;
    counts = omega (arith, sum, count);
    many = refl;
    fit = λ text fit. fit;
    lives_size = new.size;
    marks = λ k live at. (new.each k live at).many ∙ sym some.1.told.many;
    clock = λ k live at. (new.each k live at).clock;
    within = λ k low. (let zero = none k in omega (arith, zero));
    waiting = λ text fit. record {
      full = first;
      fills = full_kept first kept;
      at = (begin_passes base clocks is W N ends first made left size none sum count empty).at text fit;
      led = led_none base clocks is W N text turns made (chunks_of first) no_turn none empty;
      paused = λ k live at. subst (λ (n : ℕ). IsPaused base (timed text W N) (mains feeders readers) k n live.engine.parts live.marks.items first) (sym (none k))
          (new_paused base text feeders readers sides W N k live first fit.formed fit.told empty (new.each k live at));
      unlost = λ k live at b d e low read. (let zero = kept b d low in omega (arith, zero));
    };
  }

  module _ (lives : List LiveClock) (made : List ℕ) (left : ℕ) (turns : List TurnMade) (states : List BufferState) (live : Live lives made left turns states) where
    -- all ticks were made
    pub live_done : left ≡ 0 → (text : ℕ → Log) → AreFit base W N text first ends → AreTurns base clocks.running W N text turns no_ticks no_chunks
    live_done none text fit =
        let w = live.waiting text fit in
        led_all base clocks is W N text turns made (chunks_of w.full) w.led (done_here base clocks is W N text made left (chunks_of w.full) live.size live.counts w.at none)

    -- what a clock's turn asks, and what it tells
    module _ (m : ℕ) (old : LiveClock) (at : slice_get lives m ≡ Some old) (from : ℕ) (from_is : made_of made m ≡ from) (text : ℕ → Log) (fit : AreFit base W N text first ends) where
      pub unlost_now : AreUnlost readers old.engine.parts.clock old.marks.items states
      unlost_now = subst (λ (k : ℕ). AreUnlost readers k old.marks.items states) (sym (live.clock m old at)) ((live.waiting text fit).unlost m old at)

      pub paused_now : IsPaused base (timed text W N) (mains feeders readers) old.engine.parts.clock from old.engine.parts old.marks.items (live.waiting text fit).full
      paused_now = subst (λ (k : ℕ). IsPaused base (timed text W N) (mains feeders readers) k from old.engine.parts old.marks.items (live.waiting text fit).full) (sym (live.clock m old at))
          (subst (λ (n : ℕ). IsPaused base (timed text W N) (mains feeders readers) m n old.engine.parts old.marks.items (live.waiting text fit).full) from_is ((live.waiting text fit).paused m old at))

      -- where its turn tells that no clock makes its next tick, no record has the text
      pub refused_now : m < clocks.running
          → ((full : List BufferState) → AreFit base W N text states ends → AreFull states full → AreUnlost readers old.engine.parts.clock old.marks.items states
          → IsPaused base (timed text W N) (mains feeders readers) old.engine.parts.clock from old.engine.parts old.marks.items full → IsRefused base W N text (chunks_of full) old.engine.parts.clock)
          → IsOrderedText base clocks.running W N text → ⊥
      refused_now low told ordered = refused_none base clocks is W N text (made_of made) (chunks_of (live.waiting text fit).full) m (live.waiting text fit).at low
          (subst (λ (k : ℕ). IsRefused base W N text (chunks_of (live.waiting text fit).full) k) (live.clock m old at)
          (told (live.waiting text fit).full (live.fit text fit) (live.waiting text fit).fills unlost_now paused_now)) ordered

      pub flown_now : (n : ℕ) (new : LiveClock) (others : List BufferState)
          → ((full : List BufferState) → AreFit base W N text states ends → AreFull states full → AreUnlost readers old.engine.parts.clock old.marks.items states
          → IsPaused base (timed text W N) (mains feeders readers) old.engine.parts.clock from old.engine.parts old.marks.items full
          → HasFlownOn base (timed text W N) (mains feeders readers) old.engine.parts.clock n new.engine.parts new.marks.items full others)
          → HasFlownOn base (timed text W N) (mains feeders readers) m n new.engine.parts new.marks.items (live.waiting text fit).full others
      flown_now n new others told = subst (λ (k : ℕ). HasFlownOn base (timed text W N) (mains feeders readers) k n new.engine.parts new.marks.items (live.waiting text fit).full others) (live.clock m old at)
          (told (live.waiting text fit).full (live.fit text fit) (live.waiting text fit).fills unlost_now paused_now)

    -- a turn of clock m
    module _ (m : ℕ) (low : m < clocks.running) (n : ℕ) (far : made_of made m ≤ n) (high : n ≤ N) (new : LiveClock) (others : List BufferState) (more : List TurnMade)
        (flown : (text : ℕ → Log) → (fit : AreFit base W N text first ends) → HasFlownOn base (timed text W N) (mains feeders readers) m n new.engine.parts new.marks.items (live.waiting text fit).full others)
        (some : (text : ℕ → Log) × AreFit base W N text first ends) where
      -- so many ticks fewer are left
      pub few_live : n - made_of made m ≤ left
      few_live =
          let w = live.waiting some.0 some.1 in
          let f = flown some.0 some.1 in
          few_left base clocks is W N some.0 made left (chunks_of w.full) live.size live.counts w.at m low n (chunks_of f.full) f.gone.come far

      module _ (old : LiveClock) (at : slice_get lives m ≡ Some old) (are : more ≡ turns ++ record { clock = m; ticks = n } ∷ []) (fits : (text : ℕ → Log) → AreFit base W N text states ends → AreFit base W N text others ends)
          (many : length others ≡ length states) (marks : length new.marks.items ≡ length states)
          (stays : (k : ℕ) (marks : List Mark) → (k ≡ old.engine.parts.clock → ⊥) → AreUnlost readers k marks states → AreUnlost readers k marks others) where
        made_other : (k : ℕ) → k ≢ m → made_of made k ≡ made_of (slice_set made m n) k
        made_other k other = sym (get_or-set_other made m k n 0 other)

        made_here : n ≡ made_of (slice_set made m n) m
        made_here = sym (get_or-set_same made m n 0 (let long = live.size in omega (arith, low, long)))

        there : m < length lives
        there = (let size = live.lives_size in omega (arith, low, size))

        waiting_on : (text : ℕ → Log) → (fit : AreFit base W N text first ends) → (k : ℕ) (other_live : LiveClock) → k ≢ m → slice_get lives k ≡ Some other_live
            → IsPaused base (timed text W N) (mains feeders readers) k (made_of (slice_set made m n) k) other_live.engine.parts other_live.marks.items (flown text fit).full
        waiting_on text fit k other_live other at_k =
            let w = live.waiting text fit in
            let f = flown text fit in
            let now = live.fit text fit in
            subst (λ (j : ℕ). IsPaused base (timed text W N) (mains feeders readers) k j other_live.engine.parts other_live.marks.items f.full) (made_other k other)
            (waits_on base text feeders readers sides W N m k (made_of made k) n other_live.engine.parts other_live.marks.items w.full f.full (told_full base text states w.full w.fills now.told) (told_full base text others f.full f.fills (fits text now).told)
            f.gone.come (λ b known. chunks_stay base clocks is W N text (made_of made) (chunks_of w.full) w.at m low n far (chunks_of f.full) f.gone.come b known) other (w.paused k other_live at_k))

        pub live_on : Live (slice_set lives m new) (slice_set made m n) (left - (n - made_of made m)) more others
        live_on = record {
          size = length-set made m n ∙ live.size;
          counts = (let w = live.waiting some.0 some.1 in let f = flown some.0 some.1 in
              counts_next base clocks is W N some.0 made left (chunks_of w.full) live.size live.counts w.at m low n (chunks_of f.full) f.gone.come far);
          many = many ∙ live.many;
          fit = λ text fit. fits text (live.fit text fit);
          lives_size = length-set lives m new ∙ live.lives_size;
          marks = each_set lives m new (λ k one. length one.marks.items ≡ length others) there (λ k one other at_k. live.marks k one at_k ∙ sym many) (marks ∙ sym many);
          clock = each_set lives m new (λ k one. one.engine.parts.clock ≡ k) there (λ k one other at_k. live.clock k one at_k) (flown some.0 some.1).gone.paused.clock;
          within = λ k less. elim (cases_eq k m) [
            | inl same ↦ (let here = made_here in let e = ap (made_of (slice_set made m n)) same in omega (arith, here, e, high))
            | inr other ↦ (let e = made_other k other in let few = live.within k (less_than k less) in omega (arith, e, few))
          ];
          waiting = λ text fit.
              let w = live.waiting text fit in
              let f = flown text fit in
              record {
                full = f.full;
                fills = f.fills;
                at = at_next base clocks is W N text made left (chunks_of w.full) live.size live.counts w.at m low n (chunks_of f.full) f.gone.come far;
                led = led_more base clocks is W N text turns more made (chunks_of w.full) (chunks_of f.full) (record { clock = m; ticks = n }) are (let long = live.size in omega (arith, low, long)) w.led
                    (record { runs = low; on = far; come = f.gone.come });
                paused = each_set lives m new (λ k one. IsPaused base (timed text W N) (mains feeders readers) k (made_of (slice_set made m n) k) one.engine.parts one.marks.items f.full) there (waiting_on text fit)
                    (subst (λ (j : ℕ). IsPaused base (timed text W N) (mains feeders readers) m j new.engine.parts new.marks.items f.full) made_here f.gone.paused);
                unlost = each_set lives m new (λ k one. AreUnlost readers k one.marks.items others) there
                    (λ k one other at_k. stays k one.marks.items (λ e. other (e ∙ live.clock m old at)) (w.unlost k one at_k)) f.unlost;
              };
        }
          where
            less_than : (k : ℕ) → k < length (slice_set lives m new) → k < length lives
            less_than k less = (let long = length-set lives m new in omega (arith, less, long))
