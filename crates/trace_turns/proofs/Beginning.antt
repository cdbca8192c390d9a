-- Buffers at the begin of a run, and the outputs of its clock.
use Rattle.std.proofs.Common.{◌≡◌, ◌<◌, ◌∙◌, ◌++◌, ◌&&◌, ℕ, suc, Bool, true, false, cond, nat_eq, List, [], ◌∷◌, length, slice_index_or, refl, ap, sym, subst, arith, true≢false, append-nil}
use Rattle.std.proofs.lemmas.Bool.Decides.{nat_tests}
use Rattle.std.proofs.lemmas.List.{get_or_default}
use Rattle.std.proofs.Math.Seq.{drop-length}
use Rattle.plan_core.specs.declared.sink.SinkPlan.{SinkPlan}
use Rattle.plan_core.specs.declared.sink.SinkPlan.TheVariants.{Output, Feed}
use Rattle.frame_core.specs.Calls.{Call}
use Rattle.stream_meaning.specs.Instants.{Setting}
use Rattle.clock_ticks.specs.Engines.{outputs_from}
use Rattle.run_records.specs.Buffers.{feeder, reader}
use Rattle.trace_records.specs.Clocks.{Log}
use Rattle.trace_turns.specs.Answering.{AllStand, BufferState, SameBuffers, StandsFor, begun, chunks_at}
use Rattle.trace_turns.specs.Turns.{AreOf, AreSides, AreTold, HaveBegun, chunks_of, is_output_in, no_state, outputs_in}
use Rattle.trace_records.proofs.Fronts.{no_items}

-- whether a clock has an end of a buffer
module _ (base : Setting) (m : ℕ) (feeders readers : List ℕ) (sides : AreSides base feeders readers) where
  pub fed_test : (b : ℕ) → b < length base.plan.buffers → feeder base b ≡ m → nat_eq (slice_index_or feeders b 0) m ≡ true
  fed_test b known e = (let same = sides.fed b known ∙ e in grind (arith, nat_tests, same))

  pub not_fed_test : (b : ℕ) → b < length base.plan.buffers → (feeder base b ≡ m → ⊥) → nat_eq (slice_index_or feeders b 0) m ≡ false
  not_fed_test b known other = ap (λ n. nat_eq n m) (sides.fed b known) ∙ (let off : nat_eq (feeder base b) m ≡ false = grind (arith, nat_tests, other) in off)

  pub read_test : (b : ℕ) → b < length base.plan.buffers → reader base b ≡ m → nat_eq (slice_index_or readers b 0) m ≡ true
  read_test b known e = (let same = sides.read b known ∙ e in grind (arith, nat_tests, same))

  pub not_read_test : (b : ℕ) → b < length base.plan.buffers → (reader base b ≡ m → ⊥) → nat_eq (slice_index_or readers b 0) m ≡ false
  not_read_test b known other = ap (λ n. nat_eq n m) (sides.read b known) ∙ (let off : nat_eq (reader base b) m ≡ false = grind (arith, nat_tests, other) in off)

module _ (base : Setting) (text : ℕ → Log) (m : ℕ) (feeders readers : List ℕ) (old new : List BufferState) (told : AreTold base text old) (sides : AreSides base feeders readers)
    (many : length new ≡ length old) (are : HaveBegun feeders readers m old new) where
  abbrev B : ℕ
  B = length base.plan.buffers

  at : (b : ℕ) (d : BufferState) → b < B → slice_index_or new b d ≡ begun (slice_index_or old b d) (nat_eq (slice_index_or feeders b 0) m) (nat_eq (slice_index_or readers b 0) m)
  at b d known = are b d (let size = told.many in omega (arith, known, size))

  same_item : (b : ℕ) (d : BufferState) → b < B → slice_index_or old b d ≡ slice_index_or old b no_state
  same_item b d known = get_or_default old b d no_state (let size = told.many in omega (arith, known, size))

  pub of_begun : AreOf base text m (chunks_of old) new
  of_begun = record {
    many = many ∙ told.many;
    puts = λ b d known. ap (λ (s : BufferState). s.puts) (at b d known) ∙ told.puts b d known;
    takes = λ b d known. ap (λ (s : BufferState). s.takes) (at b d known) ∙ told.takes b d known;
    capacity = λ b d known. ap (λ (s : BufferState). s.capacity) (at b d known) ∙ told.capacity b d known;
    fed = λ b d known e. ap (λ (s : BufferState). s.fed) (at b d known) ∙ fed_test base m feeders readers sides b known e;
    not_fed = λ b d known e. ap (λ (s : BufferState). s.fed) (at b d known) ∙ not_fed_test base m feeders readers sides b known e;
    read = λ b d known e. ap (λ (s : BufferState). s.read) (at b d known) ∙ read_test base m feeders readers sides b known e;
    not_read = λ b d known e. ap (λ (s : BufferState). s.read) (at b d known) ∙ not_read_test base m feeders readers sides b known e;
    anew = λ b d known e. ap (λ (s : BufferState). s.opened) (at b d known) ∙ ap (λ (t : Bool). length (chunks_at t (slice_index_or old b d).chunks)) (fed_test base m feeders readers sides b known e);
    there = λ b d known e. ap (λ (s : BufferState). s.opened) (at b d known) ∙ ap (λ (t : Bool). length (chunks_at t (slice_index_or old b d).chunks)) (not_fed_test base m feeders readers sides b known e)
        ∙ ap (λ (s : BufferState). length s.chunks) (same_item b d known);
    front = λ b d known e. (
      [],
      ap (λ (s : BufferState). s.chunks) (at b d known) ∙ ap (λ (t : Bool). chunks_at t (slice_index_or old b d).chunks) (not_fed_test base m feeders readers sides b known e)
          ∙ ap (λ (s : BufferState). s.chunks) (same_item b d known) ∙ sym (append-nil (chunks_of old b)),
    );
  }

  no_call : (front behind : List Call) (call : Call) → [] ≡ front ++ call ∷ behind → ⊥
  no_call [] behind call e = no_items call behind e
  no_call (c ∷ front) behind call e = no_items c (front ++ call ∷ behind) e

  stands_new : (s : BufferState) (f r : Bool) (b : ℕ) → StandsFor (begun s f r) b []
  stands_new s f r b = record {
    puts = refl;
    put_low = omega arith;
    takes = refl;
    take_low = omega arith;
    got = refl;
    got_low = omega arith;
    opened_low = omega arith;
    fed = drop-length (chunks_at f s.chunks);
    list_opens = λ list. by f r list;
    in_order = λ list front behind call e here. absurd (no_call front behind call e);
  }
    where
      by : (f r : Bool) → f && r ≡ true → length (chunks_at f s.chunks) ≡ 0
      by true r list = refl
      by false r list = absurd (true≢false (sym list))

  pub stand_begun : AllStand new []
  stand_begun b d low =
      let within : b < length old = omega (arith, low, many) in
      subst (λ (s : BufferState). StandsFor s b []) (sym (are b d within)) (stands_new (slice_index_or old b d) (nat_eq (slice_index_or feeders b 0) m) (nat_eq (slice_index_or readers b 0) m) b)

  pub told_begun : AreTold base text new
  told_begun = record { many = many ∙ told.many; puts = of_begun.puts; takes = of_begun.takes; capacity = of_begun.capacity }

-- under calls they tell the same
pub told_same : (base : Setting) (text : ℕ → Log) (old new : List BufferState) → AreTold base text old → SameBuffers old new → AreTold base text new
told_same base text old new told is = record {
  many = is.many ∙ told.many;
  puts = λ b d known. (is.each b d (let size = told.many in omega (arith, known, size))).puts ∙ told.puts b d known;
  takes = λ b d known. (is.each b d (let size = told.many in omega (arith, known, size))).takes ∙ told.takes b d known;
  capacity = λ b d known. (is.each b d (let size = told.many in omega (arith, known, size))).capacity ∙ told.capacity b d known;
}

-- the outputs of a clock, counted
pub outputs_count : (setting : Setting) (m i : ℕ) (sinks : List SinkPlan) → length (outputs_from setting m i sinks) ≡ outputs_in setting.clocks m sinks
outputs_count setting m i [] = refl
outputs_count setting m i (Feed buffer node ∷ sinks) = outputs_count setting m (suc i) sinks
outputs_count setting m i (Output name node fallible wide ∷ sinks) = by (is_output_in setting.clocks m (Output name node fallible wide)) (outputs_count setting m (suc i) sinks)
  where
    by : (t : Bool) → length (outputs_from setting m (suc i) sinks) ≡ outputs_in setting.clocks m sinks
        → length (cond t ((i, node) ∷ outputs_from setting m (suc i) sinks) (outputs_from setting m (suc i) sinks)) ≡ cond t (suc (outputs_in setting.clocks m sinks)) (outputs_in setting.clocks m sinks)
    by true more = ap suc more
    by false more = more
