-- The wires of a plan's buffers.
use Rattle.std.proofs.Common.{◌≡◌, ◌<◌, ◌≤◌, ◌+◌, ◌∙◌, ℕ, zero, suc, Bool, cond, Option, List, [], ◌∷◌, ◌++◌, length, length-append, slice_index_or, slice_get, nat_lt, refl, sym, ap, subst, arith, inl, inr}
use Rattle.std.specs.Prelude.{All}
use Rattle.std.specs.Option.{option_map_or}
use Rattle.std.proofs.lemmas.Bool.{cases_lt, lt-ltb, le-ltb}
use Rattle.liq_base.specs.Pieces.{SinkTold}
use Rattle.plan_core.specs.declared.plan.Plan.{Plan}
use Rattle.plan_core.specs.declared.sink.BufferPlan.{BufferPlan}
use Rattle.plan_core.specs.Plans.{IsBuffer}
use Rattle.clock_infer.specs.declared.clock_map.ClockMap.{ClockMap}
use Rattle.stream_meaning.specs.Instants.{Setting}
use Rattle.stream_meaning.specs.Settings.{IsSetting}
use Rattle.run_records.specs.Buffers.{feeder, main_of, reader}
use Rattle.run_records.proofs.Alone.{feeder_runs}
use Rattle.buffer_sides.specs.Sides.{AreFeeders, AreReaders}
use Rattle.clock_ticks.specs.declared.engine.ClockEngine.{ClockEngine}
use Rattle.clock_threads.specs.declared.wires.Wire.{Wire}
use Rattle.clock_threads.specs.Wires.{no_wire, wire_at}
use Rattle.clock_threads.specs.Lawful.{AreWires, IsWireOf}
use Rattle.clock_threads.proofs.Sets.{same_or_other}
use Rattle.clock_threads.specs.Plans.{AreFirstWires, IsWireAt, over}
use Rattle.clock_threads.specs.ThreadRuns.{AreEngines}
use Rattle.clock_threads.specs.WiredRuns.{AreFresh, AreLaid}
use Rattle.clock_threads.proofs.Joining.{front_get, last_get}

-- what is found at a place that is there
found : {A G : Type 0} (f : A → G) (xs : List A) (k : ℕ) (d : A) (g : G) → k < length xs → option_map_or f (slice_get xs k) g ≡ f (slice_index_or xs k d)
found f [] k d g h = absurd (omega (arith, h))
found f (x ∷ xs) zero d g h = refl
found f (x ∷ xs) (suc k) d g h = found f xs k d g (omega (arith, h))

-- a wire to another clock, and one whose second end does not run
pub wire_to : (setting : Setting) (clocks feed reads capacity from to : ℕ) → from ≡ main_of setting feed → to ≡ main_of setting reads → to < clocks
    → IsWireAt setting clocks feed reads capacity (record { from = from; to = to; capacity = capacity })
wire_to setting clocks feed reads capacity from to from_is to_is low = record {
  from_is = from_is;
  to_is = to_is
      ∙ sym (ap (λ (runs : Bool). cond runs (main_of setting reads) (main_of setting feed)) (lt-ltb (main_of setting reads) clocks (subst (λ n. n < clocks) to_is low)));
  capacity_is = refl;
}

pub wire_back : (setting : Setting) (clocks feed reads capacity from to : ℕ) → from ≡ main_of setting feed → to ≡ main_of setting reads → clocks ≤ to
    → IsWireAt setting clocks feed reads capacity (record { from = from; to = from; capacity = capacity })
wire_back setting clocks feed reads capacity from to from_is to_is high = record {
  from_is = from_is;
  to_is = from_is
      ∙ sym (ap (λ (runs : Bool). cond runs (main_of setting reads) (main_of setting feed)) (le-ltb (main_of setting reads) clocks (subst (λ n. clocks ≤ n) to_is high)));
  capacity_is = refl;
}

pub first_none : (plan : Plan) (clocks : ClockMap) (wires : List Wire) → wires ≡ [] → AreFirstWires plan clocks 0 wires
first_none plan clocks wires none = record { many = ap length none; each = λ other b low. absurd (omega (arith, low)) }

pub first_more : (plan : Plan) (clocks : ClockMap) (n : ℕ) (wires after : List Wire) (wire : Wire) (fed read : List ℕ) (d : BufferPlan) (feed reads capacity : ℕ) → after ≡ wires ++ wire ∷ []
    → n < length plan.buffers → n < length fed → n < length read → feed ≡ slice_index_or fed n 0 → reads ≡ slice_index_or read n 0 → capacity ≡ (slice_index_or plan.buffers n d).capacity
    → AreFeeders plan.sinks fed → AreReaders plan 0 plan.nodes read → ((other : Setting) → IsWireAt (over plan clocks.of other) clocks.running feed reads capacity wire)
    → AreFirstWires plan clocks n wires → AreFirstWires plan clocks (n + 1) after
first_more plan clocks n wires after wire fed read d feed reads capacity is low in_fed in_read feed_is reads_is capacity_is feeds readers at are = record {
  many = (let m = are.many in ap length is ∙ length-append wires (wire ∷ []) ∙ ap (λ k. k + 1) m);
  each = λ other b less. (elim (same_or_other b n) [
    | inl e ↦ subst (λ k. IsWireOf (over plan clocks.of other) clocks.running k (wire_at after k)) (sym e)
        (subst (IsWireOf (over plan clocks.of other) clocks.running n) (sym (ap (λ l. wire_at l n) is ∙ last_get wires wire no_wire n (sym are.many))) (new other))
    | inr off ↦ (let here : b < n = omega (arith, less, off) in
        subst (IsWireOf (over plan clocks.of other) clocks.running b) (sym (ap (λ l. wire_at l b) is ∙ front_get wires wire no_wire b (let m = are.many in omega (arith, here, m)))) (are.each other b here))
  ]);
}
  where
    new : (other : Setting) → IsWireOf (over plan clocks.of other) clocks.running n wire
    new other =
        let s = over plan clocks.of other in let w = at other in
        let f : main_of s feed ≡ feeder s n = ap (main_of s) (feed_is ∙ feeds n in_fed) in
        let r : main_of s reads ≡ reader s n = ap (main_of s) (reads_is ∙ readers s refl n in_read) in
        record {
          from_is = w.from_is ∙ f;
          to_is = w.to_is ∙ (λ i. cond (nat_lt (r i) clocks.running) (r i) (f i));
          capacity_is = w.capacity_is ∙ capacity_is ∙ sym (found (λ (p : BufferPlan). p.capacity) plan.buffers n d 0 low);
        }

module _ (plan : Plan) (clocks : ClockMap) (setting : Setting) (is : IsSetting setting clocks) (plan_is : setting.plan ≡ plan) where
  same_setting : over plan clocks.of setting ≡ setting
  same_setting = (λ i. record { plan = sym plan_is i; library = setting.library; clocks = sym is.each i; start = setting.start; answers = setting.answers })

  pub wires_are : (wires : List Wire) → AreFirstWires plan clocks (length plan.buffers) wires → AreWires setting clocks.running wires
  wires_are wires first = record {
    many = first.many ∙ ap (λ (p : Plan). length p.buffers) (sym plan_is);
    each = λ b less. (let n = first.many in subst (λ s. IsWireOf s clocks.running b (wire_at wires b)) same_setting (first.each setting b (omega (arith, less, n))));
  }

  pub laid : (wires : List Wire) → length wires < 4294967296 → AreFirstWires plan clocks (length plan.buffers) wires → AreLaid plan clocks.running wires
  laid wires few first =
      let all = wires_are wires first in
      let capacity : (b : ℕ) (d : BufferPlan) → b < length wires → (slice_index_or plan.buffers b d).capacity ≡ (wire_at wires b).capacity =
      λ b d less. (let n = first.many in let low : b < length plan.buffers = omega (arith, less, n) in
      sym (found (λ (p : BufferPlan). p.capacity) plan.buffers b d 0 low) ∙ ap (λ (p : Plan). option_map_or (λ (q : BufferPlan). q.capacity) (slice_get p.buffers b) 0) (sym plan_is) ∙ sym (all.each b less).capacity_is) in
      record {
        many = first.many;
        few = few;
        some = λ b less. (let n = first.many in let low : b < length plan.buffers = omega (arith, less, n) in
            let one : BufferPlan = slice_index_or plan.buffers b (record { pre = 0; capacity = 0 }) in
            let good : IsBuffer one = subst (λ (p : Plan). All IsBuffer p.buffers) plan_is is.plan.buffers b (record { pre = 0; capacity = 0 }) low in
            let same = capacity b (record { pre = 0; capacity = 0 }) less in let some = some_room one good in omega (arith, same, some));
        capacities = capacity;
        places = λ b less. (let n = all.many in let runs = feeder_runs setting clocks is b (omega (arith, less, n)) in let w = all.each b less in let f = w.from_is in
            (omega (arith, runs, f), to_runs b (wire_at wires b) w runs));
      }
    where
      some_room : (b : BufferPlan) → IsBuffer b → 0 < b.capacity
      some_room b good = let c = good.1 in omega (arith, c)

      to_runs : (b : ℕ) (wire : Wire) → IsWireOf setting clocks.running b wire → feeder setting b < clocks.running → wire.to < clocks.running
      to_runs b wire w runs = elim (cases_lt (reader setting b) clocks.running) [
        | inl low ↦ (let e : wire.to ≡ reader setting b = w.to_is ∙ ap (λ (t : Bool). cond t (reader setting b) (feeder setting b)) (lt-ltb (reader setting b) clocks.running low) in omega (arith, e, low))
        | inr high ↦ (let e : wire.to ≡ feeder setting b = w.to_is ∙ ap (λ (t : Bool). cond t (reader setting b) (feeder setting b)) (le-ltb (reader setting b) clocks.running high) in omega (arith, e, runs))
      ]

pub fresh_is : {S : Type 0} (told : S → SinkTold) (plan : Plan) (clocks : ClockMap) (N : ℕ) (setting : Setting) (engines : List (ClockEngine S)) (wires : List Wire) → AreEngines told plan clocks N setting engines
    → AreFirstWires plan clocks (length plan.buffers) wires → AreFresh told plan wires N setting clocks engines
fresh_is told plan clocks N setting engines wires are first = record { engines_are = are; wires_are = wires_are plan clocks setting are.is are.plan_is wires first }
