-- A trace that was read, and the buffers that tell it.
use Rattle.std.proofs.Common.{◌≡◌, ◌<◌, ◌≤◌, ◌+◌, ◌-◌, ◌*◌, ◌∙◌, ℕ, zero, suc, true, false, Option, Some, List, [], ◌∷◌, length, map, slice_get, slice_index_or, inl, inr, refl, ap, sym, subst, arith, suc-mul, true≢false}
use Rattle.std.specs.Option.{option_map_or}
use native.Mathlib.Nat.{mul_comm}
use Rattle.std.proofs.lemmas.Bool.{cases_lt}
use Rattle.std.proofs.lemmas.Option.{slice_get_within}
use Rattle.std.proofs.Math.Nat.{div-add-mod, min-eq_left, min-eq_right, mod-lt, mul-le-mul_right}
use Rattle.plan_core.specs.declared.sink.BufferPlan.{BufferPlan}
use Rattle.clock_infer.specs.declared.clock_map.ClockMap.{ClockMap}
use Rattle.stream_meaning.specs.Instants.{Setting}
use Rattle.stream_meaning.specs.Settings.{IsSetting}
use Rattle.run_records.specs.Buffers.{reader}
use Rattle.run_records.specs.Records.{capacity_of, start}
use Rattle.buffer_ends.specs.Local.{Answers}
use Rattle.trace_log.specs.Texts.{IsTrace, window_count}
use Rattle.trace_log.specs.Values.{TraceValue}
use Rattle.frame_core.specs.declared.cell.Cell.{Cell}
use Rattle.trace_turns.specs.declared.ends.Ends.{Ends}
use Rattle.trace_records.specs.Told.{are_legal}
use Rattle.trace_records.specs.Clocks.{Log}
use Rattle.trace_records.specs.Passes.{IsFormed, IsLegalText, IsOrderedText}
use Rattle.trace_turns.specs.Answering.{BufferState}
use Rattle.trace_turns.specs.Thin.{AreKept}
use Rattle.trace_turns.specs.Turns.{AreFit, AreTold, chunks_of, no_state}
use Rattle.trace_turns.proofs.Searching.{HaveFound}
use Rattle.trace_turns.specs.Logs.{AreNew, new_state}
use Rattle.trace_records.specs.Traces.{pair_of, text_of}
use Rattle.trace_records.proofs.Completing.{completed, record_legal}

there_is : {A : Type 0} (xs : List A) (b : ℕ) → b < length xs → (x : A) × (slice_get xs b ≡ Some x)
there_is [] b low = absurd (omega (arith, low))
there_is (x ∷ xs) zero low = (x, refl)
there_is (x ∷ xs) (suc b) low = there_is xs b (omega (arith, low))

past_end : (xs : List BufferState) (b : ℕ) (d : BufferState) → length xs ≤ b → slice_index_or xs b d ≡ d
past_end [] b d high = refl
past_end (x ∷ xs) zero d high = absurd (omega (arith, high))
past_end (x ∷ xs) (suc b) d high = past_end xs b d (omega (arith, high))

map_long : (windows : List Answers) → length (map pair_of windows) ≡ length windows
map_long [] = refl
map_long (w ∷ windows) = ap suc (map_long windows)

-- the windows of so many ticks
formed_by : (W N : ℕ) → 1 ≤ W → (start W N (window_count N W) ≡ N) × ((j : ℕ) → j < window_count N W → start W N j < N)
formed_by W N some =
    let q : ℕ = window_count N W in
    let parts = div-add-mod (N + (W - 1)) W in
    let turn = mul_comm W q in
    let rest = mod-lt (N + (W - 1)) some in (
      min-eq_left {n = N} {m = q * W} (omega (arith, parts, turn, rest, some)),
      λ j low. (let next = suc-mul j W in let most = mul-le-mul_right W low in
          let less : j * W < N = omega (arith, parts, turn, next, most, some) in
          let e = min-eq_right {n = j * W} {m = N} (omega (arith, less)) in omega (arith, e, less)),
    )

module _ (base : Setting) (clocks : ClockMap) (is : IsSetting base clocks) (trace : TraceValue) (read : IsTrace trace) (buffers_are : length trace.buffers ≡ length base.plan.buffers) (states : List BufferState) (ends : List Ends)
    (size : length states ≡ length base.plan.buffers) (new : AreNew base.plan.buffers trace.buffers (length base.plan.buffers) states ends) where
  abbrev B : ℕ
  B = length base.plan.buffers

  abbrev text : ℕ → Log
  text = text_of trace.buffers

  state_is : (b : ℕ) (d : BufferState) → b < B → slice_index_or states b d ≡ new_state (capacity_of base b) (text b)
  state_is b d known =
      let plan = there_is base.plan.buffers b known in
      let capacity : capacity_of base b ≡ plan.0.capacity = ap (λ (o : Option BufferPlan). option_map_or (λ p. p.capacity) o 0) plan.1 in
      (new b known).0 d plan.0 plan.1 ∙ ap (λ n. new_state n (text b)) (sym capacity)

  pub formed : IsFormed B trace.window trace.ticks text
  formed =
      let bounds = read.bounds in
      let by = formed_by trace.window trace.ticks bounds.window_least in
      record {
        count = window_count trace.ticks trace.window;
        whole = by.0;
        tight = by.1;
        many = λ b known. map_long (slice_index_or trace.buffers b []) ∙ read.logs b (omega (arith, known, buffers_are));
      }

  pub fit : AreFit base trace.window trace.ticks text states ends
  fit = record {
    told = record {
      many = size;
      puts = λ b d known. ap (λ (s : BufferState). s.puts) (state_is b d known);
      takes = λ b d known. ap (λ (s : BufferState). s.takes) (state_is b d known);
      capacity = λ b d known. ap (λ (s : BufferState). s.capacity) (state_is b d known);
    };
    formed = formed;
    ends_are = λ b e known. (new b known).1 e;
  }

  pub empty : (b : ℕ) → chunks_of states b ≡ []
  empty b = elim (cases_lt b B) [
    | inl known ↦ ap (λ (s : BufferState). s.chunks) (state_is b no_state known)
    | inr high ↦ ap (λ (s : BufferState). s.chunks) (past_end states b no_state (omega (arith, high, size)))
  ]

  pub kept : AreKept states
  kept b d low = ap (λ (s : BufferState). s.gone) (state_is b d (omega (arith, low, size)))

  -- where the text is legal by itself
  module _ (readers : List ℕ) (sides : (b : ℕ) → b < B → slice_index_or readers b 0 ≡ reader base b) where
    pub legal : ((b : ℕ) (plan : BufferPlan) → slice_get base.plan.buffers b ≡ Some plan → are_legal plan.capacity 0 (text b) ≡ true)
        → ((b : ℕ) (d : BufferState) → b < length states → clocks.running ≤ slice_index_or readers b 0 → (slice_index_or states b d).takes ≡ []) → IsLegalText base clocks.running text
    legal windows unread = record {
      windows = λ b known. (let plan = there_is base.plan.buffers b known in
          let capacity : capacity_of base b ≡ plan.0.capacity = ap (λ (o : Option BufferPlan). option_map_or (λ p. p.capacity) o 0) plan.1 in
          subst (λ n. are_legal n 0 (text b) ≡ true) (sym capacity) (windows b plan.0 plan.1));
      unread = λ b known high. ap (λ (s : BufferState). s.takes) (sym (state_is b no_state known)) ∙ unread b no_state (omega (arith, known, size)) (let same = sides b known in omega (arith, high, same));
    }

    pub done : (last : ℕ → List (List Cell)) → HaveFound base clocks trace.window trace.ticks text last → IsLegalText base clocks.running text → IsOrderedText base clocks.running trace.window trace.ticks text
    done last found legal_now = completed base clocks is trace.window trace.ticks text found.made last found.at found.all formed legal_now

    pub not_legal : (b : ℕ) (plan : BufferPlan) → slice_get base.plan.buffers b ≡ Some plan → are_legal plan.capacity 0 (text b) ≡ false → IsOrderedText base clocks.running trace.window trace.ticks text → ⊥
    not_legal b plan found wrong ordered =
        let legal_now = record_legal base clocks is trace.window trace.ticks text ordered.run ordered.lawful ordered.told in
        let capacity : capacity_of base b ≡ plan.capacity = ap (λ (o : Option BufferPlan). option_map_or (λ p. p.capacity) o 0) found in
        true≢false (sym (subst (λ n. are_legal n 0 (text b) ≡ true) capacity (legal_now.windows b (within base.plan.buffers b plan found))) ∙ wrong)
      where
        within : {A : Type 0} (xs : List A) (b : ℕ) (x : A) → slice_get xs b ≡ Some x → b < length xs
        within xs b x e = slice_get_within xs b x e

    pub not_unread : (b : ℕ) → b < length states → clocks.running ≤ slice_index_or readers b 0 → ((d : BufferState) → (slice_index_or states b d).takes ≡ [] → ⊥) → IsOrderedText base clocks.running trace.window trace.ticks text → ⊥
    not_unread b low high some ordered =
        let legal_now = record_legal base clocks is trace.window trace.ticks text ordered.run ordered.lawful ordered.told in
        let known : b < B = omega (arith, low, size) in
        some no_state (ap (λ (s : BufferState). s.takes) (state_is b no_state known) ∙ legal_now.unread b known (let same = sides b known in omega (arith, high, same)))

pub told_in : (base : Setting) (W N : ℕ) (text : ℕ → Log) (states : List BufferState) (ends : List Ends) → AreFit base W N text states ends → AreTold base text states
told_in base W N text states ends fit = fit.told
