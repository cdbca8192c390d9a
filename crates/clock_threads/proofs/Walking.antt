-- One tick more.
use Rattle.std.proofs.Common.{◌≡◌, ◌⊎◌, ℕ, zero, suc, ◌<◌, ◌≤◌, Bool, true, false, List, [], ◌∷◌, ◌++◌, nat_lt, nat_eq, sym, refl, ap, ◌∙◌, subst, arith, append_assoc, Option, Some, None, inl, inr, if◌then◌else◌}
use mathlib.Core.Path.{fun_ext}
use Rattle.std.proofs.lemmas.Bool.{lt-ltb, le-ltb}
use Rattle.liq_base.specs.Pieces.{grown}
use Rattle.frame_core.specs.Calls.{Call, Answer}
use Rattle.frame_core.specs.Calls.Call.{Took, Given}
use Rattle.stream_meaning.specs.Instants.{Setting, with_rest}
use Rattle.stream_meaning.specs.Sinks.{tick_bytes, ticks_bytes}
use Rattle.stream_meaning.specs.Calls.{joined_upto, calls_of_tick, answers_in, after_calls}
use Rattle.node_states.specs.Ticks.{HasTicked, HasStopped}
use Rattle.clock_threads.specs.TickCalls.{TickCalls, answers_by, Agree, AreTicks, HasGone, HasGonePart}

pub answers-append : (b : ℕ) (cs ds : List Call) → answers_in b (cs ++ ds) ≡ answers_in b cs ++ answers_in b ds
answers-append b [] ds = refl
answers-append b (Given k c a ∷ cs) ds = answers-append b cs ds
answers-append b (Took k o ∷ cs) ds = go (nat_eq k b) (answers-append b cs ds)
  where
    go : (t : Bool) → answers_in b (cs ++ ds) ≡ answers_in b cs ++ answers_in b ds → (if t then (o ∷ answers_in b (cs ++ ds)) else answers_in b (cs ++ ds)) ≡ (if t then (o ∷ answers_in b cs) else answers_in b cs) ++ answers_in b ds
    go true e = ap (λ l. o ∷ l) e
    go false e = e

pub joined_alike : (f g : ℕ → List Call) (n : ℕ) → ((i : ℕ) → i < n → f i ≡ g i) → joined_upto f n ≡ joined_upto g n
joined_alike f g zero same = refl
joined_alike f g (suc n) same = (λ i. joined_alike f g n (λ j h. same j (omega (arith, h))) i ++ same n (omega arith) i)

pub answers_alike : (h h' : TickCalls) (t n : ℕ) → Agree t h h' → n ≤ t → answers_by h' n ≡ answers_by h n
answers_alike h h' t n agree below = ap (λ l. λ (b : ℕ). answers_in b l) (joined_alike h'.calls h.calls n (λ i less. agree.calls i (omega (arith, less, below))))

pub agree_none : (t : ℕ) (h : TickCalls) → Agree t h h
agree_none t h = record { calls = λ i less. refl; accepted = λ i less. refl }

pub agree_then : (t n : ℕ) (h k l : TickCalls) → t ≤ n → Agree t h k → Agree n k l → Agree t h l
agree_then t n h k l below a b = record {
  calls = λ i less. b.calls i (omega (arith, less, below)) ∙ a.calls i less;
  accepted = λ i less. b.accepted i (omega (arith, less, below)) ∙ a.accepted i less;
}

-- the history with the calls of tick t
abbrev pub extended : TickCalls → ℕ → List Call → (ℕ → Bool) → TickCalls
extended h t more accepted = record {
  calls = λ i. if nat_lt i t then h.calls i else more;
  accepted = λ i. if nat_lt i t then h.accepted i else accepted;
}

pub extended_below : (h : TickCalls) (t : ℕ) (more : List Call) (accepted : ℕ → Bool) → Agree t h (extended h t more accepted)
extended_below h t more accepted = record {
  calls = λ i less. ap (λ b. if b then h.calls i else more) (lt-ltb i t less);
  accepted = λ i less. ap (λ b. if b then h.accepted i else accepted) (lt-ltb i t less);
}

pub extended_at : (h : TickCalls) (t : ℕ) (more : List Call) (accepted : ℕ → Bool) → (extended h t more accepted).calls t ≡ more
extended_at h t more accepted = ap (λ b. if b then h.calls t else more) (le-ltb t t (omega arith))

extended_accepts : (h : TickCalls) (t : ℕ) (more : List Call) (accepted : ℕ → Bool) → (extended h t more accepted).accepted t ≡ accepted
extended_accepts h t more accepted = ap (λ b. if b then h.accepted t else accepted) (le-ltb t t (omega arith))

pub grown_twice : (x y : List ℕ) (h : Option (List ℕ)) → grown y (grown x h) ≡ grown (x ++ y) h
grown_twice x y None = refl
grown_twice x y (Some bytes) = ap Some (append_assoc bytes x y)

abbrev behind : (ℕ → List Answer) → List Call → (ℕ → List Answer) → ℕ → List Answer
behind A more rest b = answers_in b more ++ rest b

later : (setting : Setting) (A : ℕ → List Answer) (more : List Call) (rest : ℕ → List Answer) → with_rest setting A (behind A more rest) ≡ with_rest setting (after_calls A more) rest
later setting A more rest = ap (λ (f : ℕ → List Answer). record { plan = setting.plan; library = setting.library; clocks = setting.clocks; start = setting.start; answers = f }) (fun_ext (λ b. sym (append_assoc (A b) (answers_in b more) (rest b))))

module _ {E : Type 0} (setting : Setting) (stands : E → ℕ → (ℕ → List Answer) → Type 0) (held : E → ℕ → Option (List ℕ)) where
  module _ (m t : ℕ) (h : TickCalls) (first : ℕ → Option (List ℕ)) (e e' : E) (gone : HasGone setting stands held m t h first e) where
    ticks_kept : (h' : TickCalls) → Agree t h h' → AreTicks setting m t h'
    ticks_kept h' agree i less rest =
        agree.calls i less ∙ gone.ticks i less rest
        ∙ (λ j. calls_of_tick (with_rest setting (sym (answers_alike h h' t (suc i) agree (omega (arith, less))) j) rest) (sym (agree.accepted i less) j) m i)

    last : (i n : ℕ) → i < suc n → (i < n) ⊎ (i ≡ n)
    last zero zero less = inr refl
    last zero (suc n) less = inl (omega arith)
    last (suc i) zero less = absurd (omega (arith, less))
    last (suc i) (suc n) less = elim (last i n (omega (arith, less))) [ inl low ↦ inl (omega (arith, low)) | inr same ↦ inr (ap suc same) ]

    pub gone_more : (more : List Call) (ticked : HasTicked (stands e') setting m t (answers_by h t) more (held e) (held e'))
        → HasGone setting stands held m (suc t) (extended h t more ticked.accepted) first e'
    gone_more more ticked =
        let h' = extended h t more ticked.accepted in
        let agree : Agree t h h' = extended_below h t more ticked.accepted in
        let before : answers_by h' t ≡ answers_by h t = answers_alike h h' t t agree (omega arith) in
        let at : h'.calls t ≡ more = extended_at h t more ticked.accepted in
        let now : answers_by h' (suc t) ≡ after_calls (answers_by h t) more =
        fun_ext (λ b. answers-append b (joined_upto h'.calls t) (h'.calls t) ∙ (λ j. before j b ++ answers_in b (at j))) in
        record {
          stand = subst (λ (A : ℕ → List Answer). stands e' (suc t) A) (sym now) ticked.stand;
          ticks = λ i less rest. (elim (last i t less) [
            | inl low ↦ ticks_kept h' agree i low rest
            | inr same ↦ subst (λ n. h'.calls n ≡ calls_of_tick (with_rest setting (answers_by h' (suc n)) rest) (h'.accepted n) m n) (sym same)
                (at ∙ ticked.are rest ∙ (λ j. calls_of_tick (with_rest setting (sym now j) rest) (sym (extended_accepts h t more ticked.accepted) j) m t))
          ]);
          holds = λ rest sink node output.
              let all : Setting = with_rest setting (answers_by h' (suc t)) rest in
              let same : all ≡ with_rest setting (after_calls (answers_by h t) more) rest = ap (λ (A : ℕ → List Answer). with_rest setting A rest) now in
              let old : held e sink ≡ grown (ticks_bytes all output.wide node t) (first sink) =
              gone.holds (behind (answers_by h t) more rest) sink node output ∙ ap (λ (s : Setting). grown (ticks_bytes s output.wide node t) (first sink)) (later setting (answers_by h t) more rest ∙ sym same) in
              let new : held e' sink ≡ grown (tick_bytes all output.wide node t) (held e sink) = ticked.grew rest sink node output ∙ ap (λ (s : Setting). grown (tick_bytes s output.wide node t) (held e sink)) (sym same) in
              new ∙ ap (λ o. grown (tick_bytes all output.wide node t) o) old ∙ grown_twice (ticks_bytes all output.wide node t) (tick_bytes all output.wide node t) (first sink);
        }

    pub gone_part : (halts : E → ℕ → (ℕ → List Answer) → List Call → Type 0) (made : List Call) (broke : HasStopped setting m t (answers_by h t) made (held e) (held e')) → halts e' t (answers_by h t) made
        → (part : HasGonePart setting halts held m t h first e') × (part.made ≡ made)
    gone_part halts made broke halted = (
      record {
        ticks = gone.ticks;
        made = made;
        halted = halted;
        accepted = broke.accepted;
        begun = broke.begun;
        part = λ rest sink node output.
            let all : Setting = with_rest setting (after_calls (answers_by h t) made) rest in
            let p = broke.part rest sink node output in
            let old : held e sink ≡ grown (ticks_bytes all output.wide node t) (first sink) =
            gone.holds (behind (answers_by h t) made rest) sink node output ∙ ap (λ (s : Setting). grown (ticks_bytes s output.wide node t) (first sink)) (later setting (answers_by h t) made rest) in (
              ticks_bytes all output.wide node t ++ p.0,
              record { rest = p.0; whole_is = refl },
              record { rest = p.1.rest; whole_is = ap (λ l. ticks_bytes all output.wide node t ++ l) p.1.whole_is ∙ sym (append_assoc (ticks_bytes all output.wide node t) p.0 p.1.rest) },
              p.2 ∙ ap (λ o. grown p.0 o) old ∙ grown_twice (ticks_bytes all output.wide node t) p.0 (first sink),
            );
      },
      refl,
    )
