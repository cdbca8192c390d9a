-- A tick of a main clock, over two lists of answers: its calls are one, and the clock is alike at the next tick, or they part.
use Rattle.std.proofs.Common.{◌≡◌, ◌<◌, ◌≤◌, ◌⊎◌, ◌∙◌, ◌+◌, ◌*◌, ◌++◌, ℕ, zero, suc, Bool, true, false, Some, List, [], ◌∷◌, length, map, slice_get, flat_map, get_or, inl, inr, refl, ap, sym, subst, arith, suc-mul, mul-le-mul_right}
use Rattle.std.specs.Prelude.{⊤}
use Rattle.std.specs.List.{range_with_len}
use Rattle.plan_core.specs.declared.sink.SinkPlan.{SinkPlan}
use Rattle.plan_core.specs.declared.sink.SinkPlan.TheVariants.{Output, Feed}
use Rattle.clock_infer.specs.declared.clock_map.ClockMap.{ClockMap}
use Rattle.clock_infer.specs.declared.clock_map.NodeClock.{NodeClock}
use Rattle.clock_infer.specs.declared.clock_map.NodeClock.TheVariants.{Main}
use Rattle.clock_infer.proofs.MapLaws.{ranks}
use Rattle.frame_core.specs.declared.cell.Cell.{Cell}
use Rattle.frame_core.specs.Calls.{Call, Given, Answer}
use Rattle.stream_meaning.specs.Operators.{Reads}
use Rattle.stream_meaning.specs.Arithmetic.{cells_of}
use Rattle.stream_meaning.specs.Instants.{Setting, Moment, answered, clock_of, lies_in, offer, moment_after, first_instants, sub_of, stream_of}
use Rattle.stream_meaning.specs.Sinks.{slot_block, kind_of, tick_slots, ticks_bytes, feed_cells, gaps, missing}
use Rattle.stream_meaning.specs.Calls.{joined_upto, calls_of, given, give_by, gives_of_tick, takes_of_tick, calls_of_tick}
use Rattle.stream_meaning.specs.Settings.{IsSetting}
use Rattle.stream_meaning.proofs.Sorted.{op_of_reads}
use Rattle.stream_meaning.proofs.Ranks.{AreNested}
use Rattle.stream_meaning.proofs.Existence.{meaning, are_nested, same_clock-true}
use Rattle.run_records.specs.Parting.{Goes}
use Rattle.run_records.specs.Alike.{IsAt, AreAlike, IsTickAlike}
use Rattle.run_records.proofs.Parting.{goes_by, goes_then, goes_equal}
use Rattle.run_records.proofs.Deciding.{same_bool}
use Rattle.run_records.proofs.Instantly.{HasRank, alike_before, alike_first, instant}

map_same : {A : Type 0} (f g : ℕ → A) (from count : ℕ) → ((n : ℕ) → from ≤ n → n < from + count → f n ≡ g n) → map f (range_with_len from count) ≡ map g (range_with_len from count)
map_same f g from zero same = refl
map_same f g from (suc count) same = (λ i. same from (omega arith) (omega arith) i ∷ map_same f g (from + 1) count (λ n low high. same n (omega (arith, low)) (omega (arith, high))) i)

goes_flat : {A : Type 0} (buffers : ℕ) (f g : A → List Call) (xs : List A) → ((i : ℕ) (x : A) → slice_get xs i ≡ Some x → Goes buffers (f x) (g x) ⊤) → Goes buffers (flat_map f xs) (flat_map g xs) ⊤
goes_flat buffers f g [] each = inr (record { same = refl; now = tt })
goes_flat buffers f g (x ∷ xs) each = goes_then buffers (f x) (g x) (flat_map f xs) (flat_map g xs) (each 0 x refl) (λ now. goes_flat buffers f g xs (λ i. each (suc i)))

-- the same cells are given, and accepted or not
given_goes : (buffers buffer : ℕ) → buffer < buffers → (cells : List Cell) (one other : Bool) → Goes buffers (given buffer cells one) (given buffer cells other) ⊤
given_goes buffers buffer known [] one other = inr (record { same = refl; now = tt })
given_goes buffers buffer known (cell ∷ cells) one other = by (same_bool one other)
  where
    by : (one ≡ other) ⊎ (one ≡ other → ⊥) → Goes buffers (given buffer (cell ∷ cells) one) (given buffer (cell ∷ cells) other) ⊤
    by (inl e) = inr (record { same = ap (given buffer (cell ∷ cells)) e; now = tt })
    by (inr apart) = inl (record {
      front = [];
      one = Given buffer (cell ∷ cells) one;
      other = Given buffer (cell ∷ cells) other;
      behind = [];
      others = [];
      first = refl;
      second = refl;
      differ = (known, refl, refl, apart);
    })

module _ (base : Setting) (clocks : ClockMap) (is : IsSetting base clocks) where
  -- the same with other answers
  pub is_answered : (answers : ℕ → List Answer) → IsSetting (answered base answers) clocks
  is_answered answers = record { plan = is.plan; map = is.map; each = is.each; library = is.library; leaves = is.leaves; singles = is.singles; start = is.start }

  pub known_reads : (clock : NodeClock) (i buffer : ℕ) → IsAt base clock i (Reads buffer) → buffer < length base.plan.buffers
  known_reads clock i buffer at = is.plan.read buffer i (at.node, at.found, op_of_reads base i buffer at.node at.does)

  module _ (one other : ℕ → List Answer) where
    -- before the first tick
    pub tick_first : (m : ℕ) → IsTickAlike base one other m 0
    tick_first m = record {
      alike = (let e : 0 * base.plan.frame ≡ 0 = omega arith in
          subst (AreAlike base one other (sub_of (answered base one)) (sub_of (answered base other)) (suc (length base.plan.nodes)) (Main m)) (sym e)
          (alike_first base one other (sub_of (answered base one)) (sub_of (answered base other)) (meaning (answered base one) clocks (is_answered one)) (meaning (answered base other) clocks (is_answered other)) known_reads (suc (length base.plan.nodes)) (Main m)));
    }

    -- the slots of a node, as far as its clock is alike
    stream_same : (m n k i : ℕ) → AreAlike base one other (sub_of (answered base one)) (sub_of (answered base other)) (suc (length base.plan.nodes)) (Main m) n → k < n → clock_of base i ≡ Main m
        → stream_of (answered base one) i k ≡ stream_of (answered base other) i k
    stream_same m n k i alike low at =
        let histories : first_instants (answered base one) (sub_of (answered base one)) (Main m) (suc k) ≡ first_instants (answered base other) (sub_of (answered base other)) (Main m) (suc k) = alike.past (suc k) low in
        let any : Moment = record { parts = []; demands = [] } in
        subst (λ (clock : NodeClock). offer (moment_after (answered base one) (sub_of (answered base one)) clock (first_instants (answered base one) (sub_of (answered base one)) clock k)) i
        ≡ offer (moment_after (answered base other) (sub_of (answered base other)) clock (first_instants (answered base other) (sub_of (answered base other)) clock k)) i) (sym at)
        (ap (λ (l : List Moment). offer (get_or l 0 any) i) histories)

    slots_alike : (m t i : ℕ) → IsTickAlike base one other m (suc t) → clock_of base i ≡ Main m → tick_slots (answered base one) i t ≡ tick_slots (answered base other) i t
    slots_alike m t i is' at =
        let end : suc t * base.plan.frame ≡ t * base.plan.frame + base.plan.frame = suc-mul t base.plan.frame in
        map_same (stream_of (answered base one) i) (stream_of (answered base other) i) (t * base.plan.frame) base.plan.frame
        (λ k low high. stream_same m (suc t * base.plan.frame) k i is'.alike (omega (arith, high, end)) at)

    cells_alike : (m t i : ℕ) → IsTickAlike base one other m (suc t) → clock_of base i ≡ Main m → feed_cells (answered base one) i t ≡ feed_cells (answered base other) i t
    cells_alike m t i is' at = ap cells_of (slots_alike m t i is' at)

    -- earlier ticks are alike too
    pub tick_before : (m t n : ℕ) → t ≤ n → IsTickAlike base one other m n → IsTickAlike base one other m t
    tick_before m t n low is' = record {
      alike = alike_before base one other (sub_of (answered base one)) (sub_of (answered base other)) (meaning (answered base one) clocks (is_answered one)) (meaning (answered base other) clocks (is_answered other)) known_reads
          (suc (length base.plan.nodes)) (Main m) (t * base.plan.frame) (n * base.plan.frame) (mul_up t n base.plan.frame low) is'.alike;
    }
      where
        mul_up : (a b c : ℕ) → a ≤ b → a * c ≤ b * c
        mul_up a b c low = mul-le-mul_right c low

    -- the bytes and the gaps of an output, as far as its clock is alike
    pub bytes_alike : (wide : Bool) (m t i : ℕ) → IsTickAlike base one other m t → clock_of base i ≡ Main m → ticks_bytes (answered base one) wide i t ≡ ticks_bytes (answered base other) wide i t
    bytes_alike wide m zero i is' at = refl
    bytes_alike wide m (suc t) i is' at = (λ j. bytes_alike wide m t i (tick_before m t (suc t) (omega arith) is') at j ++ flat_map (slot_block wide (kind_of base i)) (slots_alike m t i is' at j))

    pub gaps_alike : (m t i : ℕ) → IsTickAlike base one other m t → clock_of base i ≡ Main m → gaps (answered base one) i t ≡ gaps (answered base other) i t
    gaps_alike m zero i is' at = refl
    gaps_alike m (suc t) i is' at = (λ j. gaps_alike m t i (tick_before m t (suc t) (omega arith) is') at j + missing (slots_alike m t i is' at j))

    module _ (first second : ℕ → Bool) (m t : ℕ) where
      takes_tick : IsTickAlike base one other m t → Goes (length base.plan.buffers) (takes_of_tick (answered base one) m t) (takes_of_tick (answered base other) m t) (IsTickAlike base one other m (suc t))
      takes_tick is' =
          let found = ranks base.plan clocks is.map in
          let nested : AreNested clocks (clock_of base) (length base.plan.nodes) found.0 found.1 = are_nested base clocks is found.0 found.1 found.2 in
          let has : HasRank base found.0 (Main m) 0 = record { low = omega arith; each = λ i there at. nested.ranks.main i m (nested.there i there ∙ ap (λ (c : NodeClock). Some c) at) } in
          let end : suc t * base.plan.frame ≡ t * base.plan.frame + base.plan.frame = suc-mul t base.plan.frame in
          let none : t * base.plan.frame ≡ t * base.plan.frame + 0 = omega arith in
          let Is : ℕ → Type 0 = AreAlike base one other (sub_of (answered base one)) (sub_of (answered base other)) (suc (length base.plan.nodes)) (Main m) in
          goes_by (length base.plan.buffers) (takes_of_tick (answered base one) m t) (takes_of_tick (answered base other) m t) (λ now. record { alike = subst Is (sym end) now })
          (goes_equal (length base.plan.buffers)
          (λ j. calls_of (answered base one) (sub_of (answered base one)) (Main m) (first_instants (answered base one) (sub_of (answered base one)) (Main m) (t * base.plan.frame + j)))
          (λ j. calls_of (answered base other) (sub_of (answered base other)) (Main m) (first_instants (answered base other) (sub_of (answered base other)) (Main m) (t * base.plan.frame + j)))
          base.plan.frame (λ j. Is (t * base.plan.frame + j))
          (λ j low now. goes_by (length base.plan.buffers)
          (calls_of (answered base one) (sub_of (answered base one)) (Main m) (first_instants (answered base one) (sub_of (answered base one)) (Main m) (t * base.plan.frame + j)))
          (calls_of (answered base other) (sub_of (answered base other)) (Main m) (first_instants (answered base other) (sub_of (answered base other)) (Main m) (t * base.plan.frame + j)))
          (λ after. let e : suc (t * base.plan.frame + j) ≡ t * base.plan.frame + suc j = omega arith in subst Is e after)
          (instant base one other (sub_of (answered base one)) (sub_of (answered base other)) (meaning (answered base one) clocks (is_answered one)) (meaning (answered base other) clocks (is_answered other)) known_reads
          clocks found.0 found.1 nested (suc (length base.plan.nodes)) (Main m) 0 has (omega arith) (t * base.plan.frame + j) now))
          (subst Is none is'.alike))

      give_goes : IsTickAlike base one other m (suc t) → (k : ℕ) (sink : SinkPlan) → slice_get base.plan.sinks k ≡ Some sink
          → Goes (length base.plan.buffers) (give_by (answered base one) first m t sink) (give_by (answered base other) second m t sink) ⊤
      give_goes is' k (Output name node fallible wide) there = inr (record { same = refl; now = tt })
      give_goes is' k (Feed buffer node) there = by (lies_in base (Main m) node) refl
        where
          by : (b : Bool) → lies_in base (Main m) node ≡ b → Goes (length base.plan.buffers) (give_by (answered base one) first m t (Feed buffer node)) (give_by (answered base other) second m t (Feed buffer node)) ⊤
          by false e = rw e (inr (record { same = refl; now = tt }))
          by true e = rw e (
              subst (λ (cells : List Cell). Goes (length base.plan.buffers) (given buffer (feed_cells (answered base one) node t) (first buffer)) (given buffer cells (second buffer)) ⊤)
              (cells_alike m t node is' (same_clock-true (clock_of base node) (Main m) e))
              (given_goes (length base.plan.buffers) buffer (is.plan.fed buffer k (node, there)) (feed_cells (answered base one) node t) (first buffer) (second buffer)))

      -- a tick
      pub tick_goes : IsTickAlike base one other m t
          → Goes (length base.plan.buffers) (calls_of_tick (answered base one) first m t) (calls_of_tick (answered base other) second m t) (IsTickAlike base one other m (suc t))
      tick_goes is' = goes_then (length base.plan.buffers) (takes_of_tick (answered base one) m t) (takes_of_tick (answered base other) m t) (gives_of_tick (answered base one) first m t) (gives_of_tick (answered base other) second m t)
          (takes_tick is')
          (λ now. goes_by (length base.plan.buffers) (gives_of_tick (answered base one) first m t) (gives_of_tick (answered base other) second m t) (λ none. now)
          (goes_flat (length base.plan.buffers) (give_by (answered base one) first m t) (give_by (answered base other) second m t) base.plan.sinks (give_goes now)))

    -- Causality: the calls of a clock's first ticks are one, or they part at an answer.
    pub ticks_go : (first second : ℕ → ℕ → Bool) (m n : ℕ)
        → Goes (length base.plan.buffers) (joined_upto (λ t. calls_of_tick (answered base one) (first t) m t) n) (joined_upto (λ t. calls_of_tick (answered base other) (second t) m t) n) (IsTickAlike base one other m n)
    ticks_go first second m n = goes_equal (length base.plan.buffers) (λ t. calls_of_tick (answered base one) (first t) m t) (λ t. calls_of_tick (answered base other) (second t) m t) n (IsTickAlike base one other m)
        (λ t low now. tick_goes (first t) (second t) m t now) (tick_first m)
