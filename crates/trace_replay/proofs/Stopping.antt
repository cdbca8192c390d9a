-- A tick that a fault broke off, of a clock that is run over the chunks of more ticks.
use Rattle.std.proofs.Common.{◌≡◌, ◌<◌, ◌∙◌, ◌++◌, ℕ, suc, Bool, true, false, cond, nat_eq, None, List, [], ◌∷◌, length, inl, inr, ap, sym, subst, arith, append_assoc, length-append}
use Rattle.std.specs.Prelude.{All}
use mathlib.Core.Path.{fun_ext}
use Rattle.std.proofs.lemmas.Bool.{cases_lt}
use Rattle.std.proofs.lemmas.Bool.Decides.{nat_tests}
use Rattle.clock_infer.specs.declared.clock_map.ClockMap.{ClockMap}
use Rattle.frame_core.specs.declared.cell.Cell.{Cell}
use Rattle.frame_core.specs.Calls.{Call, Took, Answer}
use Rattle.stream_meaning.specs.Instants.{Setting, answered}
use Rattle.stream_meaning.specs.Calls.{IsBegin, answers_in, calls_of_tick}
use Rattle.stream_meaning.specs.Settings.{IsSetting}
use Rattle.stream_meaning.proofs.Answering.{answers_in-append, joined_same}
use Rattle.run_records.specs.Parting.{ArePart, Goes}
use Rattle.run_records.specs.Alike.{IsTickAlike}
use Rattle.run_records.specs.Outputs.{first_calls}
use Rattle.run_records.proofs.Parting.{joined_first}
use Rattle.run_records.proofs.Ticking.{ticks_go}
use Rattle.run_records.specs.Owning.{IsOwn}
use Rattle.run_records.proofs.Owning.{own_tick}
use Rattle.trace_records.specs.Clocks.{AreAnswered, AreInOrder, HasReplayed, IsFront, Log}
use Rattle.trace_records.specs.Passes.{IsMadeBy, got_then, nothing}
use Rattle.trace_turns.specs.Answering.{AllStand, BufferState, HasFailed, HasWaited}
use Rattle.trace_turns.specs.Turns.{AreOf, no_state}
use Rattle.trace_records.proofs.Alike.{answered_upto, never, never_part, order_upto, waits}
use Rattle.trace_records.proofs.Fronts.{agree_all, front_front, front_long, head_same}
use Rattle.trace_records.proofs.Histories.{cut}
use Rattle.trace_records.proofs.Recorded.{own_at, own_joined}
use Rattle.trace_turns.proofs.Turned.{answered_by, can_by, order_by, own_front, waits_by}

-- the calls of whole ticks, and those that begin the next one
module _ (base : Setting) (m n : ℕ) (accepted : ℕ → ℕ → Bool) (calls : List Call) (are : IsMadeBy base m n accepted calls) (made : List Call) (kept : ℕ → Bool)
    (begun : (rest : ℕ → List Answer) → IsBegin made (calls_of_tick (answered base (λ b. (answers_in b calls ++ answers_in b made) ++ rest b)) kept m n)) where
  abbrev pub accepted_with : ℕ → ℕ → Bool
  accepted_with t b = cond (nat_eq t n) (kept b) (accepted t b)

  abbrev pub given_with : ℕ → List Answer
  given_with = got_then (calls ++ made) nothing

  abbrev pub behind_made : List Call
  behind_made = (begun nothing).rest

  pub made_with : first_calls (answered base given_with) accepted_with m (suc n) ≡ (calls ++ made) ++ behind_made
  made_with =
      let g : ℕ → List Answer = given_with in
      let before : got_then calls (λ b. answers_in b made ++ nothing b) ≡ g =
      fun_ext (λ b. sym (append_assoc (answers_in b calls) (answers_in b made) (nothing b)) ∙ ap (λ (l : List Answer). l ++ nothing b) (sym (answers_in-append b calls made))) in
      let first : calls ≡ first_calls (answered base g) accepted m n = are (λ b. answers_in b made ++ nothing b) ∙ ap (λ (h : ℕ → List Answer). first_calls (answered base h) accepted m n) before in
      let same : first_calls (answered base g) accepted m n ≡ first_calls (answered base g) accepted_with m n =
      joined_same (λ t. calls_of_tick (answered base g) (accepted t) m t) (λ t. calls_of_tick (answered base g) (accepted_with t) m t) n
      (λ t low. let off : nat_eq t n ≡ false = grind (arith, nat_tests, low) in ap (λ f. calls_of_tick (answered base g) f m t) (fun_ext (λ b. sym (ap (λ (s : Bool). cond s (kept b) (accepted t b)) off)))) in
      let here : (λ (b : ℕ). (answers_in b calls ++ answers_in b made) ++ nothing b) ≡ g = fun_ext (λ b. ap (λ (l : List Answer). l ++ nothing b) (sym (answers_in-append b calls made))) in
      let last : calls_of_tick (answered base g) (accepted_with n) m n ≡ made ++ behind_made =
      ap (λ f. calls_of_tick (answered base g) f m n) (fun_ext (λ b. let on : nat_eq n n ≡ true = grind (arith, nat_tests) in ap (λ (s : Bool). cond s (kept b) (accepted n b)) on))
      ∙ ap (λ (h : ℕ → List Answer). calls_of_tick (answered base h) kept m n) (sym here) ∙ (begun nothing).are in
      (λ i. sym (first ∙ same) i ++ last i) ∙ sym (append_assoc calls made behind_made)

-- over buffers that hold the chunks, each of these calls has its answer
module _ (base : Setting) (map_of : ClockMap) (is : IsSetting base map_of) (text : ℕ → Log) (to m n : ℕ) (less : n < to) (chunks : ℕ → List (List Cell)) (states : List BufferState) (of : AreOf base text m chunks states)
    (accepted : ℕ → ℕ → Bool) (calls : List Call) (are : IsMadeBy base m n accepted calls) (made : List Call) (kept : ℕ → Bool)
    (begun : (rest : ℕ → List Answer) → IsBegin made (calls_of_tick (answered base (λ b. (answers_in b calls ++ answers_in b made) ++ rest b)) kept m n)) where
  abbrev g : ℕ → List Answer
  g = given_with base m n accepted calls are made kept begun

  abbrev keeps : ℕ → ℕ → Bool
  keeps = accepted_with base m n accepted calls are made kept begun

  abbrev behind_it : List Call
  behind_it = behind_made base m n accepted calls are made kept begun

  whole_tick : first_calls (answered base g) keeps m (suc n) ≡ (calls ++ made) ++ behind_it
  whole_tick = made_with base m n accepted calls are made kept begun

  pub own_then : All (IsOwn base m) (calls ++ made)
  own_then = own_front base m (calls ++ made) behind_it (subst (All (IsOwn base m)) whole_tick
      (own_joined base m (λ t. calls_of_tick (answered base g) (keeps t) m t) (λ t. own_tick base map_of is g (keeps t) m t) (suc n)))

  module _ (W N : ℕ) (given : ℕ → List Answer) (taken : ℕ → ℕ → Bool) (whole : HasReplayed base text W N m to chunks given taken) where
    pub stopped_waits : HasWaited states (calls ++ made) → ⊥
    stopped_waits w =
        let own_w : All (IsOwn base m) w.front = own_front base m w.front (Took w.buffer None ∷ w.behind) (subst (All (IsOwn base m)) w.are own_then) in
        let at : first_calls (answered base g) keeps m (suc n) ≡ w.front ++ Took w.buffer None ∷ (w.behind ++ behind_it) =
        whole_tick ∙ ap (λ (l : List Call). l ++ behind_it) w.are ∙ append_assoc w.front (Took w.buffer None ∷ w.behind) behind_it in
        let here = waits_by base text m chunks states of w.front w.stand own_w no_state w.buffer w.known (own_at base m w.front w.behind (Took w.buffer None) (subst (All (IsOwn base m)) w.are own_then)) w.gets w.missing w.joins in
        let low = waits base map_of is text m chunks chunks (λ b known joins. agree_all (chunks b)) g given keeps taken n to less w.front (w.behind ++ behind_it) (Took w.buffer None) at
        (answered_by base text m chunks states of w.front w.stand own_w no_state) (order_by base text m chunks states of w.front w.stand own_w no_state) whole.answered_so whole.in_order here in
        let b = here.buffer in
        let early = answered_upto base map_of is text m chunks given taken (suc n) to less whole.answered_so in
        let most = front_long _ (chunks b) (early.got b here.known here.joins) in
        omega (arith, low, most)

    pub stopped_fails : HasFailed states (calls ++ made) → ⊥
    stopped_fails f =
        let own_f : All (IsOwn base m) f.front = own_front base m f.front (f.call ∷ f.behind) (subst (All (IsOwn base m)) f.are own_then) in
        let at : first_calls (answered base g) keeps m (suc n) ≡ f.front ++ f.call ∷ (f.behind ++ behind_it) =
        whole_tick ∙ ap (λ (l : List Call). l ++ behind_it) f.are ∙ append_assoc f.front (f.call ∷ f.behind) behind_it in
        never base map_of is text m chunks chunks (λ b known joins. agree_all (chunks b)) g given keeps taken n to less f.front (f.behind ++ behind_it) f.call at
        (answered_by base text m chunks states of f.front f.stand own_f no_state) (order_by base text m chunks states of f.front f.stand own_f no_state) whole.answered_so whole.in_order
        (λ other alike can. f.none other alike (can_by base text m chunks states of f.front f.stand own_f no_state other can))

    -- and they are the first ones of all
    module _ (stand : AllStand states (calls ++ made)) where
      abbrev F : List Call
      F = calls ++ made

      abbrev ys : List Call
      ys = first_calls (answered base given) taken m (suc n)

      answered_F : AreAnswered base text chunks F
      answered_F = answered_by base text m chunks states of F stand own_then no_state

      order_F : AreInOrder base F
      order_F = order_by base text m chunks states of F stand own_then no_state

      apart : (part : ArePart (length base.plan.buffers) (first_calls (answered base g) keeps m (suc n)) ys) → (left : List Call) → F ≡ part.front ++ left → left ++ behind_it ≡ part.one ∷ part.behind → length part.front < length F → ⊥
      apart part [] e f low = (let size = ap (λ (l : List Call). length l) e in let sum = length-append part.front [] in omega (arith, size, sum, low))
      apart part (x ∷ left) e f low =
          let here : x ≡ part.one = head_same x part.one (left ++ behind_it) part.behind f in
          never_part base text chunks chunks (λ b known joins. agree_all (chunks b)) F ys answered_F (answered_upto base map_of is text m chunks given taken (suc n) to less whole.answered_so)
          order_F (order_upto base map_of is text m given taken (suc n) to less whole.in_order) (record {
            front = part.front;
            one = part.one;
            other = part.other;
            behind = left;
            others = part.others;
            first = e ∙ ap (λ (c : Call). part.front ++ c ∷ left) here;
            second = part.second;
            differ = part.differ;
          })

      begins : Goes (length base.plan.buffers) (first_calls (answered base g) keeps m (suc n)) ys (IsTickAlike base g given m (suc n)) → IsFront F ys
      begins (inr one) = record { rest = behind_it; are = sym one.same ∙ whole_tick }
      begins (inl part) = elim (cases_lt (length part.front) (length F)) [
        | inl short ↦ absurd (let parts = cut F behind_it part.front (part.one ∷ part.behind) (sym whole_tick ∙ part.first) (omega (arith, short)) in apart part parts.0 parts.1 parts.2 short)
        | inr long ↦ (let parts = cut part.front (part.one ∷ part.behind) F behind_it (sym part.first ∙ whole_tick) long in
            record {
              rest = parts.0 ++ part.other ∷ part.others;
              are = part.second ∙ ap (λ (l : List Call). l ++ part.other ∷ part.others) parts.1 ∙ append_assoc F parts.0 (part.other ∷ part.others);
            })
      ]

      pub stopped_front : IsFront F (first_calls (answered base given) taken m to)
      stopped_front =
          let more = joined_first (λ t. calls_of_tick (answered base given) (taken t) m t) (suc n) to less in
          front_front F ys (first_calls (answered base given) taken m to) (begins (ticks_go base map_of is g given keeps taken m (suc n))) (record { rest = more.0; are = more.1 })
