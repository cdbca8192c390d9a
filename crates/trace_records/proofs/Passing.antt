-- A turn of a clock, and a pass in which no clock goes on.
use Rattle.std.proofs.Common.{◌≡◌, ◌<◌, ◌≤◌, ◌∙◌, ◌++◌, ℕ, suc, Bool, true, false, cond, nat_eq, List, [], ◌∷◌, length, inl, inr, refl, ap, sym, subst, arith, append_assoc, append-nil}
use Rattle.std.proofs.lemmas.Bool.{cases_lt, cases_eq}
use Rattle.std.proofs.lemmas.Bool.Decides.{nat_tests}
use Rattle.clock_infer.specs.declared.clock_map.ClockMap.{ClockMap}
use Rattle.frame_core.specs.declared.cell.Cell.{Cell}
use Rattle.frame_core.specs.Frames.{somes}
use Rattle.frame_core.specs.Calls.{Call, puts_to, Answer}
use Rattle.stream_meaning.specs.Instants.{Setting, answered}
use Rattle.stream_meaning.specs.Calls.{calls_of_tick, joined_upto}
use Rattle.stream_meaning.specs.Settings.{IsSetting}
use Rattle.run_records.specs.Outputs.{first_calls}
use Rattle.run_records.proofs.Parting.{joined_first}
use Rattle.run_records.specs.Buffers.{feeder, reader}
use Rattle.run_records.specs.Ordered.{got_by, made as counted}
use Rattle.run_records.specs.Records.{AreWindows, Run, answers_of, calls_in, puts_of, setting_in}
use Rattle.run_records.proofs.Alone.{feeder_runs}
use Rattle.run_records.proofs.Running.{own_in}
use Rattle.trace_records.specs.Clocks.{IsFront, Log, got_in, put_by}
use Rattle.trace_records.specs.Passes.{AreAt, IsHalted, IsOrderedText, IsRefused, IsTold}
use Rattle.trace_records.proofs.Fronts.{front_long, put_more}
use Rattle.trace_records.proofs.Alike.{waits}
use Rattle.trace_records.proofs.Recorded.{chunks_in, made_is, no_takes, own_joined, record_puts, replayed}

-- a function with another value at m
abbrev pub put_at : {A : Type 0} → (m : ℕ) → A → (ℕ → A) → ℕ → A
put_at m x f k = cond (nat_eq k m) x (f k)

same_number : (b c : ℕ) → nat_eq b c ≡ true → b ≡ c
same_number b c e = grind (arith, nat_tests)

equal_self : (n : ℕ) → nat_eq n n ≡ true
equal_self n = grind (arith, nat_tests)

-- ticks of an order
pub counted_snoc : (k : ℕ) (ticks : List (ℕ × ℕ)) (m t : ℕ) → counted k (ticks ++ (m, t) ∷ []) ≡ cond (nat_eq m k) (suc (counted k ticks)) (counted k ticks)
counted_snoc k [] m t = refl
counted_snoc k (tick ∷ ticks) m t = by (nat_eq tick.0 k) (nat_eq m k) (counted_snoc k ticks m t)
  where
    by : (s u : Bool) → counted k (ticks ++ (m, t) ∷ []) ≡ cond u (suc (counted k ticks)) (counted k ticks)
        → cond s (suc (counted k (ticks ++ (m, t) ∷ []))) (counted k (ticks ++ (m, t) ∷ [])) ≡ cond u (suc (cond s (suc (counted k ticks)) (counted k ticks))) (cond s (suc (counted k ticks)) (counted k ticks))
    by true true e = ap suc e
    by true false e = ap suc e
    by false true e = e
    by false false e = e

pub counted_more : (k : ℕ) (ticks others : List (ℕ × ℕ)) → counted k ticks ≤ counted k (ticks ++ others)
counted_more k [] others = omega arith
counted_more k (tick ∷ ticks) others = by (nat_eq tick.0 k) (counted_more k ticks others)
  where
    by : (s : Bool) → counted k ticks ≤ counted k (ticks ++ others) → cond s (suc (counted k ticks)) (counted k ticks) ≤ cond s (suc (counted k (ticks ++ others))) (counted k (ticks ++ others))
    by true low = omega (arith, low)
    by false low = low

-- the first chunks of more
pub put_longer : (b : ℕ) (calls : ℕ → List Call) (t n : ℕ) → t ≤ n → put_by b (joined_upto calls t) ≤ put_by b (joined_upto calls n)
put_longer b calls t n low =
    let more = joined_first calls t n low in
    let all : somes (puts_to b (joined_upto calls n)) ≡ somes (puts_to b (joined_upto calls t)) ++ somes (puts_to b more.0) = ap (λ (l : List Call). somes (puts_to b l)) more.1 ∙ put_more b (joined_upto calls t) more.0 in
    front_long (somes (puts_to b (joined_upto calls t))) (somes (puts_to b (joined_upto calls n))) (record { rest = somes (puts_to b more.0); are = all })

module _ (base : Setting) (map_of : ClockMap) (is : IsSetting base map_of) (W N : ℕ) (text : ℕ → Log) where
  abbrev B : ℕ
  B = length base.plan.buffers

  abbrev C : ℕ
  C = map_of.running

  -- what was put in the first ticks of a record is a beginning of what was accepted
  pub chunks_agree : (made : ℕ → ℕ) (chunks : ℕ → List (List Cell)) → AreAt base C W N text made chunks → (run : Run) (lawful : AreWindows base C W N run) → IsTold base text run
      → (b : ℕ) → b < B → IsFront (chunks b) (somes (puts_of run b))
  chunks_agree made chunks at run lawful is_told b low =
      let f = feeder base b in let runs : f < C = feeder_runs base map_of is b low in
      let here = at.clock f runs in
      let more = joined_first (λ j. calls_of_tick (setting_in base run) (lawful.accepted f j) f j) (made f) N here.within in
      let first : chunks b ≡ somes (puts_to b (first_calls (answered base (answers_of run)) (lawful.accepted f) f (made f))) = at.kept b low ∙ ap (λ (l : List Call). somes (puts_to b l)) (here.forced run lawful is_told) in
      let all : somes (puts_of run b) ≡ somes (puts_to b (first_calls (answered base (answers_of run)) (lawful.accepted f) f N)) =
      ap somes (record_puts base map_of is W N text run lawful is_told b low) ∙ ap (λ (l : List Call). somes (puts_to b l)) (sym (made_is base map_of is W N text run lawful is_told f runs N)) in
      record {
        rest = somes (puts_to b more.0);
        are = all ∙ ap (λ (l : List Call). somes (puts_to b l)) more.1 ∙ put_more b (first_calls (answered base (answers_of run)) (lawful.accepted f) f (made f)) more.0
            ∙ ap (λ (l : List (List Cell)). l ++ somes (puts_to b more.0)) (sym first);
      }

  -- a tick that no clock makes so
  pub refused_none : (made : ℕ → ℕ) (chunks : ℕ → List (List Cell)) (m : ℕ) → AreAt base C W N text made chunks → m < C → IsRefused base W N text chunks m → IsOrderedText base C W N text → ⊥
  refused_none made chunks m at low refused text_of =
      refused.none (chunks_in base map_of is W N text text_of.run text_of.lawful text_of.told) (answers_of text_of.run) (text_of.lawful.accepted m)
      (λ b known. let front = chunks_agree made chunks at text_of.run text_of.lawful text_of.told b known in (front.rest, front.are))
      (replayed base map_of is W N text text_of.run text_of.lawful text_of.told m low)

  -- a pass in which no clock goes on
  module _ (made : ℕ → ℕ) (chunks : ℕ → List (List Cell)) (at : AreAt base C W N text made chunks) (halted : (m : ℕ) → m < C → made m < N → IsHalted base text chunks m (made m)) (text_of : IsOrderedText base C W N text) where
    abbrev run : Run
    run = text_of.run

    abbrev ticks : ℕ → ℕ → List Call
    ticks m t = calls_in (setting_in base run) C text_of.lawful.accepted m t

    -- the next tick of each clock gets more in the record than is there
    wants : (m : ℕ) → m < C → made m < N → (b : ℕ) × (b < B) × (reader base b ≡ m) × (length (chunks b) < got_by (setting_in base run) C text_of.lawful.accepted b (suc (made m)))
    wants m low more =
        let h = halted m low more in
        let rec = replayed base map_of is W N text run text_of.lawful text_of.told m low in
        let b = h.waits.buffer in
        let less = waits base map_of is text m chunks (chunks_in base map_of is W N text run text_of.lawful text_of.told)
        (λ c known joins. inl (chunks_agree made chunks at run text_of.lawful text_of.told c known)) h.given (answers_of run) h.accepted (text_of.lawful.accepted m)
        (made m) N more h.front h.behind h.call h.at h.answered_front h.order_front rec.answered_so rec.in_order h.waits in
        let same = made_is base map_of is W N text run text_of.lawful text_of.told m low (suc (made m)) in
        let there : length (chunks b) < got_in b (joined_upto (ticks m) (suc (made m))) = subst (λ (l : List Call). length (chunks b) < got_in b l) same less in
        elim (cases_eq (reader base b) m) [
          | inl read ↦ (b, h.waits.known, read, subst (λ (k : ℕ). length (chunks b) < got_in b (joined_upto (ticks k) (suc (made m)))) (sym read) there)
          | inr other ↦ absurd (let none = ap (λ (l : List Answer). length (somes l)) (no_takes base b m other (joined_upto (ticks m) (suc (made m)))
              (own_joined base m (ticks m) (λ j. own_in base map_of is (answers_of run) C text_of.lawful.accepted m j) (suc (made m)))) in omega (arith, there, none))
        ]

    -- no tick of the record's order goes past those that were made
    walk : (before rest : List (ℕ × ℕ)) → text_of.ordered.order ≡ before ++ rest → ((k : ℕ) → k < C → counted k before ≤ made k) → (k : ℕ) → k < C → counted k text_of.ordered.order ≤ made k
    walk before [] e low k there = subst (λ (l : List (ℕ × ℕ)). counted k l ≤ made k) (sym (e ∙ append-nil before)) (low k there)
    walk before (tick ∷ rest) e low k there = walk (before ++ tick ∷ []) rest (e ∙ sym (append_assoc before (tick ∷ []) rest)) next k there
      where
        m : ℕ
        m = tick.0

        each : (m < C) × (tick.1 ≡ counted m before)
        each = text_of.ordered.each before rest tick.0 tick.1 e

        not_last : counted m before ≡ made m → made m < N → ⊥
        not_last full less =
            let w = wants m each.0 less in
            let b = w.0 in
            let f = feeder base b in
            let runs : f < C = feeder_runs base map_of is b w.1 in
            let early = text_of.ordered.earlier before rest tick.0 tick.1 b e w.1 w.2 in
            let same : suc tick.1 ≡ suc (made m) = ap suc (each.1 ∙ full) in
            let gets = ap (got_by (setting_in base run) C text_of.lawful.accepted b) same in
            let most = put_longer b (ticks f) (counted f before) (made f) (low f runs) in
            let kept : length (chunks b) ≡ put_by b (joined_upto (ticks f) (made f)) =
            ap (λ l. length l) (at.kept b w.1 ∙ ap (λ (l : List Call). somes (puts_to b l)) ((at.clock f runs).forced run text_of.lawful text_of.told ∙ made_is base map_of is W N text run text_of.lawful text_of.told f runs (made f))) in
            let more = w.3 in
            omega (arith, early, gets, most, kept, more)

        goes : counted m before < made m
        goes = elim (cases_lt (counted m before) (made m)) [
          | inl less ↦ less
          | inr high ↦ absurd (
              let all = text_of.ordered.all m each.0 in
              let few = low m each.0 in
              let snoc : counted m (before ++ (m, tick.1) ∷ []) ≡ suc (counted m before) = counted_snoc m before m tick.1 ∙ ap (λ (s : Bool). cond s (suc (counted m before)) (counted m before)) (equal_self m) in
              let most = counted_more m (before ++ (m, tick.1) ∷ []) rest in
              let parts = ap (counted m) (e ∙ sym (append_assoc before ((m, tick.1) ∷ []) rest)) in
              not_last (omega (arith, high, few)) (omega (arith, all, few, high, snoc, most, parts)))
        ]

        next : (k : ℕ) → k < C → counted k (before ++ tick ∷ []) ≤ made k
        next k there = subst (λ (n : ℕ). n ≤ made k) (sym (counted_snoc k before m tick.1)) (by (nat_eq m k) refl)
          where
            by : (s : Bool) → nat_eq m k ≡ s → cond s (suc (counted k before)) (counted k before) ≤ made k
            by true same = subst (λ (j : ℕ). suc (counted j before) ≤ made j) (same_number m k same) goes
            by false same = low k there

    pub stuck_none : (m : ℕ) → m < C → made m < N → ⊥
    stuck_none m low less =
        let all = text_of.ordered.all m low in
        let few = walk [] text_of.ordered.order refl (λ k there. omega arith) m low in
        omega (arith, all, few, less)
