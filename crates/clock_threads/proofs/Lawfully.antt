-- A run that ends well has a lawful record by its wires.
use Rattle.std.proofs.Common.{◌≡◌, ◌≢◌, ℕ, zero, suc, ◌<◌, ◌≤◌, ◌+◌, ◌-◌, ◌==◌, Bool, true, false, List, [], ◌∷◌, ◌++◌, length, sym, refl, ap, ◌∙◌, subst, arith, inl, inr, append_assoc, append-nil, Option, Some, None, if◌then◌else◌}
use Rattle.std.specs.List.{flat_map}
use mathlib.Core.Path.{fun_ext}
use Rattle.frame_core.specs.declared.cell.Cell.{Cell}
use Rattle.frame_core.specs.Legal.{Legal, IsHistory}
use Rattle.frame_core.specs.Calls.{Call, takes_of, puts_to, put_of}
use Rattle.frame_core.specs.Calls.Call.{Took, Given}
use Rattle.frame_core.proofs.Laws.{run_more}
use Rattle.buffer_ends.specs.Local.{Held, on, Leads}
use Rattle.stream_meaning.specs.Calls.{joined_upto}
use Rattle.clock_threads.specs.TickCalls.{TickCalls, joined_from}
use Rattle.clock_threads.proofs.Walking.{joined_alike}
use Rattle.clock_threads.specs.declared.wires.Wire.{Wire}
use Rattle.clock_threads.specs.Wires.{wire_at, no_wire}
use Rattle.run_records.specs.Records.{Window, start}
use Rattle.clock_threads.specs.Records.{window_of, windows_upto}
use Rattle.clock_threads.specs.Lawful.{Answers, Meaning, and_rest, got_by, answers_of, clock_calls_of, IsWiredHistory, TakeOwn}
use Rattle.run_records.specs.Records.{Follows}
use Rattle.run_records.proofs.Rounding.{follows_split}
use Rattle.clock_threads.proofs.Sets.{same_or_other}
use Rattle.clock_threads.proofs.Keeping.{takes-append, on-append}
use Rattle.clock_threads.proofs.Meeting.{joined_split}
use Rattle.clock_threads.proofs.Starts.{start_zero, start_most, start_up}

pub leads_follows : (q : Held) (cs : List Call) (r : Held) → Leads q cs r → Follows q.capacity q.chunks cs r.chunks
leads_follows q [] r e = ap (λ (h : Held). h.chunks) e
leads_follows q (Took b None ∷ cs) r l = (l.1.0, subst (λ (h : Held). Follows h.capacity h.chunks cs r.chunks) l.1.1 (leads_follows l.0 cs r l.2))
leads_follows q (Took b (Some chunk) ∷ cs) r l = (l.1.0, l.1.1, subst (λ (h : Held). Follows h.capacity h.chunks cs r.chunks) l.1.2 (leads_follows l.0 cs r l.2))
leads_follows q (Given b chunk true ∷ cs) r l = (l.1.0, subst (λ (h : Held). Follows h.capacity h.chunks cs r.chunks) l.1.1 (leads_follows l.0 cs r l.2))
leads_follows q (Given b chunk false ∷ cs) r l = (l.1.0, subst (λ (h : Held). Follows h.capacity h.chunks cs r.chunks) l.1.1 (leads_follows l.0 cs r l.2))

-- a history in a given order is a legal window
pub follows_legal : (C b : ℕ) (cs : List Call) (q r : List (List Cell)) → Follows C q (on b cs) r → Legal C r q (puts_to b cs) (takes_of b cs)
follows_legal C b [] q r f = subst (λ l. Legal C r l [] []) (sym f) Legal.all_done
follows_legal C b (Took x o ∷ cs) q r f = go (b == x) o (λ q' g. follows_legal C b cs q' r g) f
  where
    go : (t : Bool) (o' : Option (List Cell)) → ((q' : List (List Cell)) → Follows C q' (on b cs) r → Legal C r q' (puts_to b cs) (takes_of b cs))
        → Follows C q (if t then Took x o' ∷ on b cs else on b cs) r → Legal C r q (puts_to b cs) (if t then o' ∷ takes_of b cs else takes_of b cs)
    go false o' rec g = rec q g
    go true None rec g = subst (λ l. Legal C r l (puts_to b cs) (None ∷ takes_of b cs)) (sym g.0) (Legal.empty (subst (λ l. Legal C r l (puts_to b cs) (takes_of b cs)) g.0 (rec q g.1)))
    go true (Some chunk) rec g = subst (λ l. Legal C r l (puts_to b cs) (Some chunk ∷ takes_of b cs)) (sym g.1) (Legal.got (rec g.0 g.2))
follows_legal C b (Given x c a ∷ cs) q r f = go (b == x) a (λ q' g. follows_legal C b cs q' r g) f
  where
    go : (t : Bool) (a' : Bool) → ((q' : List (List Cell)) → Follows C q' (on b cs) r → Legal C r q' (puts_to b cs) (takes_of b cs))
        → Follows C q (if t then Given x c a' ∷ on b cs else on b cs) r → Legal C r q (if t then put_of c a' ∷ puts_to b cs else puts_to b cs) (takes_of b cs)
    go false a' rec g = rec q g
    go true true rec g = Legal.accepted g.0 (rec (q ++ c ∷ []) g.1)
    go true false rec g = Legal.put_refused g.0 (rec q g.1)

pub flat_snoc : {A B : Type 0} (f : A → List B) (xs : List A) (y : A) → flat_map f (xs ++ y ∷ []) ≡ flat_map f xs ++ f y
flat_snoc f [] y = append-nil (f y)
flat_snoc f (x ∷ xs) y = ap (λ l. f x ++ l) (flat_snoc f xs y) ∙ sym (append_assoc (f x) (flat_map f xs) (f y))

module _ (W N : ℕ) where
  -- the calls up to the end of a window
  upto_next : (f : ℕ → List Call) (j : ℕ) → joined_upto f (start W N (suc j)) ≡ joined_upto f (start W N j) ++ joined_from f (start W N j) (start W N (suc j) - start W N j)
  upto_next f j =
      let up = start_up W N j in
      let e : start W N (suc j) ≡ start W N j + (start W N (suc j) - start W N j) = omega (arith, up) in
      ap (joined_upto f) e ∙ joined_split f (start W N j) (start W N (suc j) - start W N j)

  pub all_takes : (wire : Wire) (hs : ℕ → TickCalls) (b j : ℕ) → flat_map (λ (w : Window). w.1) (windows_upto wire hs b W N j) ≡ takes_of b (joined_upto (hs wire.to).calls (start W N j))
  all_takes wire hs b zero = ap (λ n. takes_of b (joined_upto (hs wire.to).calls n)) (sym (start_zero W N))
  all_takes wire hs b (suc j) =
      let f = (hs wire.to).calls in let more = joined_from f (start W N j) (start W N (suc j) - start W N j) in
      flat_snoc (λ (w : Window). w.1) (windows_upto wire hs b W N j) (window_of wire hs b (start W N j) (start W N (suc j) - start W N j))
      ∙ ap (λ l. l ++ takes_of b more) (all_takes wire hs b j) ∙ sym (takes-append b (joined_upto f (start W N j)) more) ∙ ap (takes_of b) (sym (upto_next f j))

  -- a buffer of one clock: its windows are one history, whatever their length
  pub local_run : (wire : Wire) (hs : ℕ → TickCalls) (b j : ℕ) (r : List (List Cell)) → wire.from ≡ wire.to
      → Follows wire.capacity [] (on b (joined_upto (hs wire.from).calls (start W N j))) r → IsHistory wire.capacity [] (windows_upto wire hs b W N j) r
  local_run wire hs b zero r e f = subst (λ n. Follows wire.capacity [] (on b (joined_upto (hs wire.from).calls n)) r) (start_zero W N) f
  local_run wire hs b (suc j) r e f =
      let calls = (hs wire.from).calls in let more = joined_from calls (start W N j) (start W N (suc j) - start W N j) in
      let cut = follows_split wire.capacity (on b (joined_upto calls (start W N j))) (on b more) [] r
      (subst (λ l. Follows wire.capacity [] l r) (ap (on b) (upto_next calls j) ∙ on-append b (joined_upto calls (start W N j)) more) f) in
      let legal : Legal wire.capacity r cut.0 (puts_to b more) (takes_of b (joined_from (hs wire.to).calls (start W N j) (start W N (suc j) - start W N j))) =
      subst (λ k. Legal wire.capacity r cut.0 (puts_to b more) (takes_of b (joined_from (hs k).calls (start W N j) (start W N (suc j) - start W N j)))) e (follows_legal wire.capacity b more cut.0 r cut.2) in
      run_more wire.capacity [] cut.0 r (windows_upto wire hs b W N j) (puts_to b more) (takes_of b (joined_from (hs wire.to).calls (start W N j) (start W N (suc j) - start W N j))) (local_run wire hs b j cut.0 e cut.1) legal

  -- windows rest on the calls below N alone
  pub windows_same : (wire : Wire) (hs gs : ℕ → TickCalls) (b j : ℕ) → ((i : ℕ) → i < N → (gs wire.from).calls i ≡ (hs wire.from).calls i) → ((i : ℕ) → i < N → (gs wire.to).calls i ≡ (hs wire.to).calls i)
      → windows_upto wire gs b W N j ≡ windows_upto wire hs b W N j
  windows_same wire hs gs b zero from to = refl
  windows_same wire hs gs b (suc j) from to =
      let s = start W N j in let count = start W N (suc j) - start W N j in let most = start_most W N (suc j) in let up = start_up W N j in
      let f : joined_from (gs wire.from).calls s count ≡ joined_from (hs wire.from).calls s count = joined_alike (λ i. (gs wire.from).calls (s + i)) (λ i. (hs wire.from).calls (s + i)) count (λ i less. from (s + i) (omega (arith, less, most, up))) in
      let t : joined_from (gs wire.to).calls s count ≡ joined_from (hs wire.to).calls s count = joined_alike (λ i. (gs wire.to).calls (s + i)) (λ i. (hs wire.to).calls (s + i)) count (λ i less. to (s + i) (omega (arith, less, most, up))) in
      (λ i. windows_same wire hs gs b j from to i ++ (puts_to b (f i), takes_of b (t i)) ∷ [])

pub takes_none : (f : ℕ → List Call) (b n : ℕ) → ((i : ℕ) → i < n → takes_of b (f i) ≡ []) → takes_of b (joined_upto f n) ≡ []
takes_none f b zero h = refl
takes_none f b (suc n) h = takes-append b (joined_upto f n) (f n) ∙ (λ i. takes_none f b n (λ k less. h k (omega (arith, less))) i ++ h n (omega arith) i)

beyond : (wires : List Wire) (b : ℕ) → length wires ≤ b → wire_at wires b ≡ no_wire
beyond [] b h = refl
beyond (w ∷ wires) zero h = absurd (omega (arith, h))
beyond (w ∷ wires) (suc b) h = beyond wires b (omega (arith, h))

-- The record of clocks that made all their ticks: their windows are lawful.
module _ (meant : Meaning) (wires : List Wire) (clocks : ℕ) (own : TakeOwn meant wires clocks) (W N j : ℕ) (whole : start W N j ≡ N) (hs : ℕ → TickCalls) where
  abbrev pub windows : ℕ → List Window
  windows b = windows_upto (wire_at wires b) hs b W N j

  module _ (m : ℕ) (runs : m < clocks) (ticks : (i : ℕ) → i < N → (rest : Answers) → (hs m).calls i ≡ meant (and_rest (got_by (hs m) (suc i)) rest) ((hs m).accepted i) m i) where
    no_takes : (b : ℕ) → (wire_at wires b).to ≢ m → (n : ℕ) → n ≤ N → got_by (hs m) n b ≡ []
    no_takes b other n most = takes_none (hs m).calls b n (λ i less. ap (takes_of b) (ticks i (omega (arith, less, most)) (λ x. [])) ∙ own.takes (and_rest (got_by (hs m) (suc i)) (λ x. [])) ((hs m).accepted i) m i b runs other)

    -- of no buffer without a wire
    pub no_others : (b : ℕ) → length wires ≤ b → (n : ℕ) → n ≤ N → got_by (hs m) n b ≡ []
    no_others b past n most = takes_none (hs m).calls b n (λ i less. ap (takes_of b) (ticks i (omega (arith, less, most)) (λ x. [])) ∙ own.none (and_rest (got_by (hs m) (suc i)) (λ x. [])) ((hs m).accepted i) m i b past)

    -- what follows the answers of the first n ticks
    pub rests : (n : ℕ) → n ≤ N → (b : ℕ) → (rest : List (Option (List Cell))) × (answers_of windows b ≡ got_by (hs m) n b ++ rest)
    rests n most b = elim (same_or_other (wire_at wires b).to m) [
      | inl is ↦ (
        takes_of b (joined_from (hs m).calls n (N - n)),
        (let e : N ≡ n + (N - n) = omega (arith, most) in
            all_takes W N (wire_at wires b) hs b j ∙ (λ i. takes_of b (joined_upto (hs (is i)).calls (whole i)))
            ∙ ap (λ k. takes_of b (joined_upto (hs m).calls k)) e ∙ ap (takes_of b) (joined_split (hs m).calls n (N - n)) ∙ takes-append b (joined_upto (hs m).calls n) (joined_from (hs m).calls n (N - n))),
      )
      | inr other ↦ (answers_of windows b, ap (λ l. l ++ answers_of windows b) (sym (no_takes b other n most)))
    ]

    pub answers_whole : (n : ℕ) (most : n ≤ N) → and_rest (got_by (hs m) n) (λ b. (rests n most b).0) ≡ answers_of windows
    answers_whole n most = fun_ext (λ b. sym (rests n most b).1)

    pub calls_are : (i : ℕ) → i < N → (hs m).calls i ≡ meant (answers_of windows) ((hs m).accepted i) m i
    calls_are i less = let most : suc i ≤ N = omega (arith, less) in
        ticks i less (λ b. (rests (suc i) most b).0) ∙ ap (λ (A : Answers). meant A ((hs m).accepted i) m i) (answers_whole (suc i) most)

  pub is_lawful : (tight : (i : ℕ) → i < j → start W N i < N) → 0 < clocks
      → ((b : ℕ) → b < length wires → (wire_at wires b).from < clocks × ((wire_at wires b).to < clocks))
      → ((m : ℕ) → m < clocks → (i : ℕ) → i < N → (rest : Answers) → (hs m).calls i ≡ meant (and_rest (got_by (hs m) (suc i)) rest) ((hs m).accepted i) m i)
      → ((b : ℕ) → b < length wires → (wire_at wires b).from ≢ (wire_at wires b).to → (rest : List (List Cell)) × IsHistory (wire_at wires b).capacity [] (windows b) rest)
      → ((b : ℕ) → b < length wires → (wire_at wires b).from ≡ (wire_at wires b).to → (rest : List (List Cell)) × Follows (wire_at wires b).capacity [] (on b (joined_upto (hs (wire_at wires b).from).calls N)) rest)
      → IsWiredHistory meant wires W N j windows
  is_lawful tight some places ticks joined local = record {
    accepted = λ m t. (hs m).accepted t;
    whole = whole;
    tight = tight;
    are = λ b less. sym (windows_same W N (wire_at wires b) hs (clock_calls_of meant windows (λ m t. (hs m).accepted t)) b j
        (λ i low. sym (calls_are (wire_at wires b).from (places b less).0 (ticks (wire_at wires b).from (places b less).0) i low)) (λ i low. sym (calls_are (wire_at wires b).to (places b less).1 (ticks (wire_at wires b).to (places b less).1) i low)));
    legal = λ b less. (elim (same_or_other (wire_at wires b).from (wire_at wires b).to) [
      | inl e ↦ (let l = local b less e in (l.0, local_run W N (wire_at wires b) hs b j l.0 e (subst (λ n. Follows (wire_at wires b).capacity [] (on b (joined_upto (hs (wire_at wires b).from).calls n)) l.0) (sym whole) l.1)))
      | inr n ↦ joined b less n
    ]);
    in_order = λ b less e. (let l = local b less e in (
      l.0,
      subst (λ c. Follows (wire_at wires b).capacity [] (on b c) l.0) (joined_alike (hs (wire_at wires b).from).calls (clock_calls_of meant windows (λ m t. (hs m).accepted t) (wire_at wires b).from).calls N
          (λ i low. calls_are (wire_at wires b).from (places b less).0 (ticks (wire_at wires b).from (places b less).0) i low)) l.1,
    ));
    others = λ b past. (let n : N ≤ N = omega arith in let off = beyond wires b past in
        all_takes W N (wire_at wires b) hs b j ∙ (λ i. takes_of b (joined_upto (hs (ap (λ (w : Wire). w.to) off i)).calls (whole i))) ∙ no_others 0 some (ticks 0 some) b past N n);
  }
