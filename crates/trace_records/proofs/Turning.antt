-- A turn of a clock leads from one state of all clocks to the next.
use Rattle.std.proofs.Common.{◌≡◌, ◌≢◌, ◌<◌, ◌≤◌, ◌+◌, ◌-◌, ◌∙◌, ◌++◌, ◌⊎◌, ℕ, zero, suc, Bool, true, false, cond, nat_eq, Some, None, List, [], ◌∷◌, length, slice_get, inl, inr, refl, ap, sym, subst, arith, append_assoc, append-nil, length-append}
use Rattle.std.proofs.lemmas.Bool.{cases_lt, cases_eq}
use Rattle.std.proofs.lemmas.Bool.Decides.{nat_tests}
use Rattle.std.proofs.lemmas.Option.{slice_get_within}
use Rattle.clock_infer.specs.declared.clock_map.ClockMap.{ClockMap}
use Rattle.frame_core.specs.declared.cell.Cell.{Cell}
use Rattle.frame_core.specs.Frames.{somes}
use Rattle.frame_core.specs.Calls.{Call, Took, Given, puts_to, takes_of, Answer}
use Rattle.stream_meaning.specs.Instants.{Setting, answered}
use Rattle.stream_meaning.specs.Calls.{calls_of_tick, gives_of_tick, given, joined_upto, takes_of_tick}
use Rattle.stream_meaning.specs.Settings.{IsSetting}
use Rattle.run_records.specs.Outputs.{first_calls}
use Rattle.run_records.proofs.Parting.{joined_first}
use Rattle.run_records.specs.Buffers.{feeder, reader}
use Rattle.run_records.specs.Ordered.{made as counted}
use Rattle.run_records.specs.Records.{answers_of}
use Rattle.run_records.proofs.Alone.{feeder_runs}
use Rattle.trace_records.specs.Clocks.{AreInOrder, HasReplayed, IsFront, Joins, Log, got_in, put_by}
use Rattle.trace_records.specs.Passes.{AreAt, AreOrdered, ClockIsAt, HasCome, HasTurned, IsHalted, got_then, nothing, ticks_in}
use Rattle.trace_records.proofs.Fronts.{Meets, agree_all, answered_more, front_long, got_more, meets, put_more}
use Rattle.trace_records.proofs.Fronts.Meets.{before, same, behind}
use Rattle.trace_records.proofs.Alike.{order_upto, same_ticks, waits}
use Rattle.trace_records.proofs.Recorded.{chunks_in, replayed}
use Rattle.trace_records.proofs.Ticking.{gives_take_none, takes_put_none}
use Rattle.trace_records.proofs.Passing.{chunks_agree, counted_more, counted_snoc, put_at}

same_number : (b c : ℕ) → nat_eq b c ≡ true → b ≡ c
same_number b c e = grind (arith, nat_tests)

other_number : (b c : ℕ) → nat_eq b c ≡ false → b ≢ c
other_number b c e = grind (arith, nat_tests)

equal_self : (n : ℕ) → nat_eq n n ≡ true
equal_self n = grind (arith, nat_tests)

-- of a buffer with both ends in one clock no more is got than was put
module _ (base : Setting) (b : ℕ) (known : b < length base.plan.buffers) (local : feeder base b ≡ reader base b) where
  one_more : (done rest : List Call) (call : Call) → AreInOrder base (done ++ call ∷ rest) → got_in b done ≤ put_by b done → got_in b (done ++ call ∷ []) ≤ put_by b (done ++ call ∷ [])
  one_more done rest (Given c chunk accepted) order low =
      let got = ap (λ (l : List (List Cell)). length l) (got_more b done (Given c chunk accepted ∷ [])) in
      let none = length-append (somes (takes_of b done)) [] in
      let put = ap (λ (l : List (List Cell)). length l) (put_more b done (Given c chunk accepted ∷ [])) in
      let some = length-append (somes (puts_to b done)) (somes (puts_to b (Given c chunk accepted ∷ []))) in
      omega (arith, got, none, put, some, low)
  one_more done rest (Took c answer) order low = by (cases_eq b c) answer order
    where
      put_same : (answer : Answer) → put_by b (done ++ Took c answer ∷ []) ≡ put_by b done
      put_same answer = ap (λ (l : List (List Cell)). length l) (put_more b done (Took c answer ∷ []) ∙ append-nil (somes (puts_to b done)))

      by : (b ≡ c) ⊎ (b ≢ c) → (answer : Answer) → AreInOrder base (done ++ Took c answer ∷ rest) → got_in b (done ++ Took c answer ∷ []) ≤ put_by b (done ++ Took c answer ∷ [])
      by (inr other) answer order =
          let none : takes_of b (Took c answer ∷ []) ≡ [] = (let e : nat_eq b c ≡ false = grind (arith, nat_tests) in ap (λ (s : Bool). cond s (answer ∷ []) []) e) in
          let got = ap (λ (l : List (List Cell)). length l) (got_more b done (Took c answer ∷ []) ∙ ap (λ (l : List Answer). somes (takes_of b done) ++ somes l) none ∙ append-nil (somes (takes_of b done))) in
          let put = put_same answer in omega (arith, got, put, low)
      by (inl here) None order =
          let one : takes_of b (Took c None ∷ []) ≡ None ∷ [] = (let e : nat_eq b c ≡ true = grind (arith, nat_tests) in ap (λ (s : Bool). cond s (None ∷ []) []) e) in
          let got = ap (λ (l : List (List Cell)). length l) (got_more b done (Took c None ∷ []) ∙ ap (λ (l : List Answer). somes (takes_of b done) ++ somes l) one ∙ append-nil (somes (takes_of b done))) in
          let put = put_same None in omega (arith, got, put, low)
      by (inl here) (Some chunk) order =
          let one : takes_of b (Took c (Some chunk) ∷ []) ≡ Some chunk ∷ [] = (let e : nat_eq b c ≡ true = grind (arith, nat_tests) in ap (λ (s : Bool). cond s (Some chunk ∷ []) []) e) in
          let got = ap (λ (l : List (List Cell)). length l) (got_more b done (Took c (Some chunk) ∷ []) ∙ ap (λ (l : List Answer). somes (takes_of b done) ++ somes l) one) in
          let size = length-append (somes (takes_of b done)) (chunk ∷ []) in
          let there : slice_get (somes (puts_to c done)) (got_in c done) ≡ Some chunk = order.each done rest (Took c (Some chunk)) refl (subst (λ (k : ℕ). k < length base.plan.buffers) here known)
          (subst (λ (k : ℕ). feeder base k ≡ reader base k) here local) in
          let within : got_in c done < put_by c done = slice_get_within (somes (puts_to c done)) (got_in c done) chunk there in
          let less : got_in b done < put_by b done = subst (λ (k : ℕ). got_in k done < put_by k done) (sym here) within in
          let put = put_same (Some chunk) in omega (arith, got, size, put, less)

  pub got_within : (done rest : List Call) → AreInOrder base (done ++ rest) → got_in b done ≤ put_by b done → got_in b (done ++ rest) ≤ put_by b (done ++ rest)
  got_within done [] order low = subst (λ (l : List Call). got_in b l ≤ put_by b l) (sym (append-nil done)) low
  got_within done (call ∷ rest) order low =
      subst (λ (l : List Call). got_in b l ≤ put_by b l) (append_assoc done (call ∷ []) rest)
      (got_within (done ++ call ∷ []) rest (subst (AreInOrder base) (sym (append_assoc done (call ∷ []) rest)) order) (one_more done rest call order low))

-- by the end of a tick no more was got than was put before it
pub got_before : (base : Setting) (b : ℕ) → b < length base.plan.buffers → feeder base b ≡ reader base b → (given : ℕ → List Answer) (accepted : ℕ → ℕ → Bool) (m t : ℕ)
    → AreInOrder base (first_calls (answered base given) accepted m (suc t)) → got_in b (first_calls (answered base given) accepted m (suc t)) ≤ put_by b (first_calls (answered base given) accepted m t)
got_before base b known local given accepted m t order =
    let xs : List Call = first_calls (answered base given) accepted m t in
    let zs : List Call = takes_of_tick (answered base given) m t in
    let gs : List Call = gives_of_tick (answered base given) (accepted t) m t in
    let got : got_in b (xs ++ zs ++ gs) ≡ got_in b (xs ++ zs) =
    ap (λ (l : List (List Cell)). length l) (got_more b (xs ++ zs) gs ∙ ap (λ (l : List Answer). somes (takes_of b (xs ++ zs)) ++ somes l) (gives_take_none (answered base given) (accepted t) b m t) ∙ append-nil (somes (takes_of b (xs ++ zs)))) in
    let put : put_by b (xs ++ zs) ≡ put_by b xs =
    ap (λ (l : List (List Cell)). length l) (put_more b xs zs ∙ ap (λ (l : List Answer). somes (puts_to b xs) ++ somes l) (takes_put_none (answered base given) b m t) ∙ append-nil (somes (puts_to b xs))) in
    let same : xs ++ (zs ++ gs) ≡ (xs ++ zs) ++ gs = sym (append_assoc xs zs gs) in
    let cut : AreInOrder base ((xs ++ zs) ++ gs) = subst (AreInOrder base) same order in
    let short : AreInOrder base (xs ++ zs) = record { each = λ front behind call at. cut.each front (behind ++ gs) call (ap (λ (l : List Call). l ++ gs) at ∙ append_assoc front (call ∷ behind) gs) } in
    let low : got_in b (xs ++ zs) ≤ put_by b (xs ++ zs) = got_within base b known local [] (xs ++ zs) short (omega arith) in
    let all = ap (got_in b) same in
    omega (arith, got, put, low, all)

-- one tick more in an order
module _ (base : Setting) (clocks : ℕ) (ticks : ℕ → ℕ → List Call) (made : ℕ → ℕ) (order : List (ℕ × ℕ)) (are : AreOrdered base clocks ticks made order)
    (m : ℕ) (low : m < clocks) (early : (b : ℕ) → b < length base.plan.buffers → reader base b ≡ m → got_in b (ticks m (suc (made m))) ≤ put_by b (ticks (feeder base b) (counted (feeder base b) order))) where
  at_end : (before' behind' : List (ℕ × ℕ)) (tick : ℕ × ℕ) → order ++ (m, made m) ∷ [] ≡ before' ++ tick ∷ behind'
      → ((w : List (ℕ × ℕ)) × (order ≡ before' ++ tick ∷ w)) ⊎ ((before' ≡ order) × (tick ≡ (m, made m)))
  at_end before' behind' tick e = by (meets before' behind' order [] tick (m, made m) (sym e))
    where
      by : Meets before' behind' order [] tick (m, made m) → ((w : List (ℕ × ℕ)) × (order ≡ before' ++ tick ∷ w)) ⊎ ((before' ≡ order) × (tick ≡ (m, made m)))
      by (before w f) = inl (w, f)
      by (same f one all) = inr (f, one)
      by (behind w f) = absurd (let long = ap (λ (l : List (ℕ × ℕ)). length l) (e ∙ ap (λ (l : List (ℕ × ℕ)). l ++ tick ∷ behind') f) in
          let first = length-append order ((m, made m) ∷ []) in let second = length-append (order ++ (m, made m) ∷ w) (tick ∷ behind') in
          let third = length-append order ((m, made m) ∷ w) in omega (arith, long, first, second, third))

  pub ordered_more : AreOrdered base clocks ticks (put_at m (suc (made m)) made) (order ++ (m, made m) ∷ [])
  ordered_more = record {
    all = λ k there. counted_snoc k order m (made m) ∙ count k (nat_eq m k) refl (are.all k there);
    each = λ before' behind' k t e. elim (at_end before' behind' (k, t) e) [
      | inl old ↦ are.each before' old.0 k t old.1
      | inr new ↦ (let k_is : k ≡ m = ap (λ (p : ℕ × ℕ). p.0) new.1 in let t_is : t ≡ made m = ap (λ (p : ℕ × ℕ). p.1) new.1 in
          (omega (arith, k_is, low), t_is ∙ sym (are.all m low) ∙ ap (counted m) (sym new.0) ∙ ap (λ (j : ℕ). counted j before') (sym k_is)))
    ];
    earlier = λ before' behind' k t b e known read. elim (at_end before' behind' (k, t) e) [
      | inl old ↦ are.earlier before' old.0 k t b old.1 known read
      | inr new ↦ (let k_is : k ≡ m = ap (λ (p : ℕ × ℕ). p.0) new.1 in let t_is : t ≡ made m = ap (λ (p : ℕ × ℕ). p.1) new.1 in
          let now = early b known (read ∙ k_is) in
          let gets : got_in b (ticks k (suc t)) ≡ got_in b (ticks m (suc (made m))) = (λ i. got_in b (ticks (k_is i) (suc (t_is i)))) in
          let puts = ap (λ (l : List (ℕ × ℕ)). put_by b (ticks (feeder base b) (counted (feeder base b) l))) new.0 in
          omega (arith, now, gets, puts))
    ];
  }
    where
      count : (k : ℕ) (s : Bool) → nat_eq m k ≡ s → counted k order ≡ made k → cond s (suc (counted k order)) (counted k order) ≡ put_at m (suc (made m)) made k
      count k true e is = (let k_is : nat_eq k m ≡ true = grind (arith, nat_tests, same_number m k e) in let here : m ≡ k = same_number m k e in
          ap suc (is ∙ ap made (sym here)) ∙ sym (ap (λ (s : Bool). cond s (suc (made m)) (made k)) k_is))
      count k false e is = (let k_is : nat_eq k m ≡ false = grind (arith, nat_tests, other_number m k e) in is ∙ sym (ap (λ (s : Bool). cond s (suc (made m)) (made k)) k_is))

pub got_longer : (b : ℕ) (calls : ℕ → List Call) (t n : ℕ) → t ≤ n → got_in b (joined_upto calls t) ≤ got_in b (joined_upto calls n)
got_longer b calls t n low =
    let more = joined_first calls t n low in
    let all : somes (takes_of b (joined_upto calls n)) ≡ somes (takes_of b (joined_upto calls t)) ++ somes (takes_of b more.0) = ap (λ (l : List Call). somes (takes_of b l)) more.1 ∙ got_more b (joined_upto calls t) more.0 in
    front_long (somes (takes_of b (joined_upto calls t))) (somes (takes_of b (joined_upto calls n))) (record { rest = somes (takes_of b more.0); are = all })

module _ (base : Setting) (map_of : ClockMap) (is : IsSetting base map_of) (W N : ℕ) (text : ℕ → Log) (made : ℕ → ℕ) (chunks : ℕ → List (List Cell)) (at : AreAt base map_of.running W N text made chunks)
    (m : ℕ) (low : m < map_of.running) (n : ℕ) (others : ℕ → List (List Cell)) where
  -- a run that goes on until a tick waits has come at least as far
  pub ahead : HasTurned base W N text m n chunks others → made m ≤ n
  ahead turn = elim (cases_lt n (made m)) [
    | inr high ↦ high
    | inl less ↦ absurd (
        let old = at.clock m low in
        let here = old.within in
        let h = turn.halted (omega (arith, less, here)) in
        let w = waits base map_of is text m chunks chunks (λ b known joins. agree_all (chunks b)) h.given (got_then (at.calls m) nothing) h.accepted (at.accepted m) n (made m) less
        h.front h.behind h.call h.at h.answered_front h.order_front old.replayed.answered_so old.replayed.in_order h.waits in
        let b = h.waits.buffer in
        let few = front_long (somes (takes_of b (ticks_in base (at.accepted m) (at.calls m) m (made m)))) (chunks b) (old.replayed.answered_so.got b h.waits.known h.waits.joins) in
        let more = got_longer b (λ j. calls_of_tick (answered base (got_then (at.calls m) nothing)) (at.accepted m j) m j) (suc n) (made m) less in
        omega (arith, w, few, more))
  ]

module _ (base : Setting) (map_of : ClockMap) (is : IsSetting base map_of) (W N : ℕ) (text : ℕ → Log) (made : ℕ → ℕ) (chunks : ℕ → List (List Cell)) (at : AreAt base map_of.running W N text made chunks)
    (m : ℕ) (low : m < map_of.running) (n : ℕ) (far : made m ≤ n) (others : ℕ → List (List Cell)) (turn : HasCome base W N text m n chunks others) where
  abbrev B : ℕ
  B = length base.plan.buffers

  abbrev C : ℕ
  C = map_of.running

  abbrev old : ClockIsAt base C W N text chunks m (made m) (at.calls m) (at.accepted m)
  old = at.clock m low

  -- the ticks of the turn and those of the clock before
  abbrev new_ticks : ℕ → List Call
  new_ticks t = ticks_in base turn.accepted turn.calls m t

  abbrev old_ticks : ℕ → ℕ → List Call
  old_ticks k t = ticks_in base (at.accepted k) (at.calls k) k t

  tick_of : (calls : List Call) (accepted : ℕ → ℕ → Bool) (k t : ℕ) → List Call
  tick_of calls accepted k t = calls_of_tick (answered base (got_then calls nothing)) (accepted t) k t

  pub same_first : (t : ℕ) → t ≤ made m → new_ticks t ≡ old_ticks m t
  same_first t within =
      same_ticks base map_of is text m chunks chunks (λ b known joins. agree_all (chunks b)) (got_then turn.calls nothing) (got_then (at.calls m) nothing) turn.accepted (at.accepted m)
      n (made m) t (omega (arith, within, far)) within turn.replayed.answered_so old.replayed.answered_so turn.replayed.in_order old.replayed.in_order

  calls_more : (rest : List Call) × (turn.calls ≡ at.calls m ++ rest)
  calls_more =
      let more = joined_first (λ j. calls_of_tick (answered base (got_then turn.calls nothing)) (turn.accepted j) m j) (made m) n far in (
        more.0,
        turn.are nothing ∙ more.1 ∙ ap (λ (l : List Call). l ++ more.0) (same_first (made m) (omega arith) ∙ sym (old.are nothing)),
      )

  -- the chunks that are there stay
  pub chunks_stay : (b : ℕ) → b < B → IsFront (chunks b) (others b)
  chunks_stay b known = elim (cases_eq (feeder base b) m) [
    | inl fed ↦ (let more = calls_more in record {
      rest = somes (puts_to b more.0);
      are = turn.fed b known fed ∙ ap (λ (l : List Call). somes (puts_to b l)) more.1 ∙ put_more b (at.calls m) more.0
          ∙ ap (λ (l : List (List Cell)). l ++ somes (puts_to b more.0)) (ap (λ (k : ℕ). somes (puts_to b (at.calls k))) (sym fed) ∙ sym (at.kept b known));
    })
    | inr other ↦ record { rest = []; are = turn.kept b known other ∙ sym (append-nil (chunks b)) }
  ]

  -- and none comes where no tick does
  pub none_comes : n ≡ made m → (b : ℕ) → b < B → others b ≡ chunks b
  none_comes e b known = elim (cases_eq (feeder base b) m) [
    | inl fed ↦ turn.fed b known fed
        ∙ ap (λ (l : List Call). somes (puts_to b l)) (turn.are nothing ∙ ap new_ticks e ∙ same_first (made m) (omega arith) ∙ sym (old.are nothing))
        ∙ ap (λ (k : ℕ). somes (puts_to b (at.calls k))) (sym fed) ∙ sym (at.kept b known)
    | inr other ↦ turn.kept b known other
  ]

  replayed_more : (k t : ℕ) (given : ℕ → List Answer) (accepted : ℕ → ℕ → Bool) → HasReplayed base text W N k t chunks given accepted → HasReplayed base text W N k t others given accepted
  replayed_more k t given accepted has = record {
    answered_so = answered_more base text chunks others (first_calls (answered base given) accepted k t) (λ b known joins. chunks_stay b known) has.answered_so;
    in_order = has.in_order;
    whole = has.whole;
  }

  clock_now : (k : ℕ) → k < C → ClockIsAt base C W N text others k (put_at m n made k) (put_at m turn.calls at.calls k) (put_at m turn.accepted at.accepted k)
  clock_now k there = by (nat_eq k m) refl
    where
      by : (s : Bool) → nat_eq k m ≡ s → ClockIsAt base C W N text others k (cond s n (made k)) (cond s turn.calls (at.calls k)) (cond s turn.accepted (at.accepted k))
      by true e = subst (λ (j : ℕ). ClockIsAt base C W N text others j n turn.calls turn.accepted) (sym (same_number k m e)) (record {
        within = turn.within;
        are = turn.are;
        replayed = replayed_more m n (got_then turn.calls nothing) turn.accepted turn.replayed;
        forced = λ run lawful is_told.
            let rec = replayed base map_of is W N text run lawful is_told m low in
            turn.are nothing ∙ same_ticks base map_of is text m chunks (chunks_in base map_of is W N text run lawful is_told)
            (λ b known joins. inl (chunks_agree base map_of is W N text made chunks at run lawful is_told b known)) (got_then turn.calls nothing) (answers_of run) turn.accepted (lawful.accepted m)
            n N n (omega arith) turn.within turn.replayed.answered_so rec.answered_so turn.replayed.in_order rec.in_order;
      })
      by false e = (let c = at.clock k there in record {
        within = c.within;
        are = c.are;
        replayed = replayed_more k (made k) (got_then (at.calls k) nothing) (at.accepted k) c.replayed;
        forced = c.forced;
      })

  kept_now : (b : ℕ) → b < B → others b ≡ somes (puts_to b (put_at m turn.calls at.calls (feeder base b)))
  kept_now b known = by (nat_eq (feeder base b) m) refl
    where
      by : (s : Bool) → nat_eq (feeder base b) m ≡ s → others b ≡ somes (puts_to b (cond s turn.calls (at.calls (feeder base b))))
      by true e = turn.fed b known (same_number (feeder base b) m e)
      by false e = turn.kept b known (other_number (feeder base b) m e) ∙ at.kept b known

  -- the ticks of all clocks after the turn
  abbrev now_ticks : ℕ → ℕ → List Call
  now_ticks k t = ticks_in base (put_at m turn.accepted at.accepted k) (put_at m turn.calls at.calls k) k t

  now_here : (t : ℕ) → now_ticks m t ≡ new_ticks t
  now_here t = ap (λ (s : Bool). ticks_in base (cond s turn.accepted (at.accepted m)) (cond s turn.calls (at.calls m)) m t) (equal_self m)

  now_same : (k t : ℕ) → t ≤ made k → now_ticks k t ≡ old_ticks k t
  now_same k t within = by (nat_eq k m) refl
    where
      by : (s : Bool) → nat_eq k m ≡ s → ticks_in base (cond s turn.accepted (at.accepted k)) (cond s turn.calls (at.calls k)) k t ≡ old_ticks k t
      by true e = (let here : k ≡ m = same_number k m e in
          ap (λ (j : ℕ). ticks_in base turn.accepted turn.calls j t) here ∙ same_first t (subst (λ (j : ℕ). t ≤ made j) here within) ∙ ap (λ (j : ℕ). old_ticks j t) (sym here))
      by false e = refl

  -- the order before is one of them
  ordered_before : AreOrdered base C now_ticks made at.order
  ordered_before = record {
    all = at.ordered.all;
    each = at.ordered.each;
    earlier = λ before' behind' k t b e known read.
        let this = at.ordered.each before' behind' k t e in
        let f = feeder base b in
        let snoc : counted k (before' ++ (k, t) ∷ []) ≡ suc (counted k before') = counted_snoc k before' k t ∙ ap (λ (s : Bool). cond s (suc (counted k before')) (counted k before')) (equal_self k) in
        let most = counted_more k (before' ++ (k, t) ∷ []) behind' in
        let parts = ap (counted k) (e ∙ sym (append_assoc before' ((k, t) ∷ []) behind')) in
        let all = at.ordered.all k this.0 in
        let t_is = this.1 in
        let within : suc t ≤ made k = omega (arith, t_is, snoc, most, parts, all) in
        let runs : f < C = feeder_runs base map_of is b known in
        let few = counted_more f before' ((k, t) ∷ behind') in
        let whole = ap (counted f) e in
        let all_f = at.ordered.all f runs in
        let inside : counted f before' ≤ made f = omega (arith, few, whole, all_f) in
        let early = at.ordered.earlier before' behind' k t b e known read in
        let gets = ap (got_in b) (now_same k (suc t) within) in
        let puts = ap (put_by b) (now_same f (counted f before') inside) in
        omega (arith, early, gets, puts);
  }

  -- of a tick of the turn
  early_here : (t : ℕ) → suc t ≤ n → (order : List (ℕ × ℕ)) → ((k : ℕ) → k < C → counted k order ≡ put_at m t made k) → (b : ℕ) → b < B → reader base b ≡ m → got_in b (now_ticks m (suc t)) ≤ put_by b (now_ticks (feeder base b) (counted (feeder base b) order))
  early_here t within order count b known read =
      let f = feeder base b in
      let runs : f < C = feeder_runs base map_of is b known in
      let here = now_here (suc t) in
      elim (cases_eq f m) [
        | inl fed ↦ (let number : counted f order ≡ t = count f runs ∙ ap (λ (j : ℕ). put_at m t made j) fed ∙ ap (λ (s : Bool). cond s t (made m)) (equal_self m) in
            let order_now : AreInOrder base (new_ticks (suc t)) = order_upto base map_of is text m (got_then turn.calls nothing) turn.accepted (suc t) n within turn.replayed.in_order in
            let less = got_before base b known (fed ∙ sym read) (got_then turn.calls nothing) turn.accepted m t order_now in
            let gets = ap (got_in b) here in
            let puts : put_by b (now_ticks f (counted f order)) ≡ put_by b (new_ticks t) = (λ i. put_by b (now_ticks (fed i) (number i))) ∙ ap (put_by b) (now_here t) in
            omega (arith, less, gets, puts))
        | inr other ↦ (let number : counted f order ≡ made f = count f runs ∙ (let off : nat_eq f m ≡ false = grind (arith, nat_tests, other) in ap (λ (s : Bool). cond s t (made f)) off) in
            let joins : Joins base b = (λ local. other (local ∙ read)) in
            let gets = ap (got_in b) here in
            let more = got_longer b (λ j. calls_of_tick (answered base (got_then turn.calls nothing)) (turn.accepted j) m j) (suc t) n within in
            let few = front_long (somes (takes_of b (new_ticks n))) (chunks b) (turn.replayed.answered_so.got b known joins) in
            let puts : put_by b (now_ticks f (counted f order)) ≡ length (chunks b) = ap (λ (j : ℕ). put_by b (now_ticks f j)) number ∙ ap (put_by b) (now_same f (made f) (omega arith) ∙ sym ((at.clock f runs).are nothing))
            ∙ ap (λ l. length l) (sym (at.kept b known)) in
            omega (arith, gets, more, few, puts))
      ]

  abbrev OrderAt : ℕ → Type 0
  OrderAt t = (order : List (ℕ × ℕ)) × AreOrdered base C now_ticks (put_at m t made) order

  goes_on : (t : ℕ) → suc t ≤ n → OrderAt t → OrderAt (suc t)
  goes_on t within so_far =
      let order = so_far.0 in let are = so_far.1 in
      let here : put_at m t made m ≡ t = ap (λ (s : Bool). cond s t (made m)) (equal_self m) in
      let more = ordered_more base C now_ticks (put_at m t made) order are m low (λ b known read. subst (λ (j : ℕ). got_in b (now_ticks m (suc j)) ≤ put_by b (now_ticks (feeder base b) (counted (feeder base b) order))) (sym here)
      (early_here t within order are.all b known read)) in (
        order ++ (m, put_at m t made m) ∷ [],
        record {
          all = λ k there. more.all k there ∙ by k (nat_eq k m) here;
          each = more.each;
          earlier = more.earlier;
        },
      )
    where
      by : (k : ℕ) (s : Bool) → put_at m t made m ≡ t → cond s (suc (put_at m t made m)) (cond s t (made k)) ≡ cond s (suc t) (made k)
      by k true here = ap suc here
      by k false here = refl

  upto : (count : ℕ) → made m + count ≤ n → OrderAt (made m + count)
  upto zero within = (
    at.order,
    record {
      all = λ k there. ordered_before.all k there ∙ by k (nat_eq k m) refl;
      each = ordered_before.each;
      earlier = ordered_before.earlier;
    },
  )
    where
      by : (k : ℕ) (s : Bool) → nat_eq k m ≡ s → made k ≡ cond s (made m + 0) (made k)
      by k true e = (let same_made = ap made (same_number k m e) in omega (arith, same_made))
      by k false e = refl
  upto (suc count) within =
      let next : made m + suc count ≡ suc (made m + count) = omega arith in
      subst OrderAt (sym next) (goes_on (made m + count) (omega (arith, within)) (upto count (omega (arith, within))))

  pub turned : AreAt base C W N text (put_at m n made) others
  turned =
      let all : made m + (n - made m) ≡ n = omega (arith, far) in
      let found : OrderAt n = subst OrderAt all (upto (n - made m) (omega (arith, all))) in
      record {
        calls = put_at m turn.calls at.calls;
        accepted = put_at m turn.accepted at.accepted;
        clock = clock_now;
        kept = kept_now;
        order = found.0;
        ordered = found.1;
      }

-- a tick waits for chunks as long as none comes
pub halted_same : (base : Setting) (text : ℕ → Log) (chunks others : ℕ → List (List Cell)) (m n : ℕ) → ((b : ℕ) → b < length base.plan.buffers → others b ≡ chunks b) → IsHalted base text chunks m n → IsHalted base text others m n
halted_same base text chunks others m n stays h = record {
  given = h.given;
  accepted = h.accepted;
  front = h.front;
  behind = h.behind;
  call = h.call;
  at = h.at;
  answered_front = answered_more base text chunks others h.front (λ b known joins. record { rest = []; are = stays b known ∙ sym (append-nil (chunks b)) }) h.answered_front;
  order_front = h.order_front;
  waits = record {
    buffer = h.waits.buffer;
    known = h.waits.known;
    take = h.waits.take;
    joins = h.waits.joins;
    gets = h.waits.gets;
    missing = subst (λ (l : List (List Cell)). length l ≤ got_in h.waits.buffer h.front) (sym (stays h.waits.buffer h.waits.known)) h.waits.missing;
  };
}
