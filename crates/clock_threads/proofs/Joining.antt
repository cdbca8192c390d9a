-- The ends of the buffers are handed out, from the last buffer on.
use Rattle.std.proofs.Common.{◌≡◌, ◌≢◌, ◌⊎◌, ℕ, zero, suc, ◌<◌, ◌≤◌, ◌+◌, List, [], ◌∷◌, ◌++◌, length, set, slice_index_or, sym, refl, ap, ◌∙◌, subst, arith, inl, inr, get_or-set_same, get_or-set_other, length-set, length-append}
use Rattle.atomic_table.specs.Seated.{TableId}
use Rattle.buffer_queue.specs.Window.{Window, opened, capacity_of}
use Rattle.buffer_ends.specs.Sides.{Side}
use Rattle.buffer_ends.specs.Borders.{HasEnd}
use Rattle.buffer_ends.specs.declared.thread_taps.ThreadTaps.{ThreadTaps}
use Rattle.clock_threads.specs.declared.task.Task.{Task}
use Rattle.clock_threads.specs.declared.wires.Wire.{Wire}
use Rattle.clock_threads.specs.Wires.{wire_at}
use Rattle.clock_threads.specs.Ends.{puts_of as put_ends, takes_of as take_ends, SameButEnds, JoinOpen}
use Rattle.clock_threads.specs.Records.{SameEngines}
use Rattle.clock_threads.proofs.Sets.{same_or_other, side}
use Rattle.clock_threads.specs.Starts.{AreQueues, PutAdded, TakeAdded, BothAdded, AreJoined}

-- queues, one more
pub queues_more : (wires : List Wire) (n : ℕ) (queues queues' : List TableId) (passes passes' : List (Window × Window)) (queue : TableId) (put take : Window)
    → queues' ≡ queues ++ queue ∷ [] → passes' ≡ passes ++ (put, take) ∷ [] → capacity_of queue ≡ (wire_at wires n).capacity → put ≡ opened queue [] → take ≡ opened queue []
    → AreQueues wires n queues passes → AreQueues wires (n + 1) queues' passes'
queues_more wires n queues queues' passes passes' queue put take q p c o t are = record {
  queues_many = (let m = are.queues_many in ap length q ∙ length-append queues (queue ∷ []) ∙ ap (λ k. k + 1) m);
  passes_many = (let m = are.passes_many in ap length p ∙ length-append passes ((put, take) ∷ []) ∙ ap (λ k. k + 1) m);
  capacity = λ b d low. (elim (same_or_other b n) [
    | inl e ↦ subst (λ k. capacity_of (slice_index_or queues' k d) ≡ (wire_at wires k).capacity) (sym e) (ap capacity_of (here d) ∙ c)
    | inr off ↦ ap capacity_of (other b d (omega (arith, low, off))) ∙ are.capacity b d (omega (arith, low, off))
  ]);
  ends = λ b d e low. (elim (same_or_other b n) [
    | inl is ↦ subst (λ k. slice_index_or passes' k e ≡ (opened (slice_index_or queues' k d) [], opened (slice_index_or queues' k d) [])) (sym is)
        (pass_here e ∙ (λ i. ((o ∙ ap (λ (z : TableId). opened z []) (sym (here d))) i, (t ∙ ap (λ (z : TableId). opened z []) (sym (here d))) i)))
    | inr off ↦ pass_other b e (omega (arith, low, off)) ∙ are.ends b d e (omega (arith, low, off)) ∙ ap (λ (z : TableId). (opened z [], opened z [])) (sym (other b d (omega (arith, low, off))))
  ]);
}
  where
    front : {A : Type 0} (xs : List A) (y d : A) (k : ℕ) → k < length xs → slice_index_or (xs ++ y ∷ []) k d ≡ slice_index_or xs k d
    front [] y d k h = absurd (omega (arith, h))
    front (x ∷ xs) y d zero h = refl
    front (x ∷ xs) y d (suc k) h = front xs y d k (omega (arith, h))

    last : {A : Type 0} (xs : List A) (y d : A) (k : ℕ) → k ≡ length xs → slice_index_or (xs ++ y ∷ []) k d ≡ y
    last [] y d zero h = refl
    last [] y d (suc k) h = absurd (omega (arith, h))
    last (x ∷ xs) y d zero h = absurd (omega (arith, h))
    last (x ∷ xs) y d (suc k) h = last xs y d k (omega (arith, h))

    here : (d : TableId) → slice_index_or queues' n d ≡ queue
    here d = ap (λ l. slice_index_or l n d) q ∙ last queues queue d n (sym are.queues_many)

    other : (b : ℕ) (d : TableId) → b < n → slice_index_or queues' b d ≡ slice_index_or queues b d
    other b d low = ap (λ l. slice_index_or l b d) q ∙ front queues queue d b (let m = are.queues_many in omega (arith, low, m))

    pass_here : (e : Window × Window) → slice_index_or passes' n e ≡ (put, take)
    pass_here e = ap (λ l. slice_index_or l n e) p ∙ last passes (put, take) e n (sym are.passes_many)

    pass_other : (b : ℕ) (e : Window × Window) → b < n → slice_index_or passes' b e ≡ slice_index_or passes b e
    pass_other b e low = ap (λ l. slice_index_or l b e) p ∙ front passes (put, take) e b (let m = are.passes_many in omega (arith, low, m))

-- what is left to hand out
pub record Waiting (wires : List Wire) (queues : List TableId) (passes : List (Window × Window)) : Type 0 where
  pub few : length passes ≤ length wires
  pub ends : (b : ℕ) (d : TableId) (e : Window × Window) → b < length passes → slice_index_or passes b e ≡ (opened (slice_index_or queues b d) [], opened (slice_index_or queues b d) [])

pub front_get : {A : Type 0} (xs : List A) (y d : A) (k : ℕ) → k < length xs → slice_index_or (xs ++ y ∷ []) k d ≡ slice_index_or xs k d
front_get [] y d k h = absurd (omega (arith, h))
front_get (x ∷ xs) y d zero h = refl
front_get (x ∷ xs) y d (suc k) h = front_get xs y d k (omega (arith, h))

pub last_get : {A : Type 0} (xs : List A) (y d : A) (k : ℕ) → k ≡ length xs → slice_index_or (xs ++ y ∷ []) k d ≡ y
last_get [] y d zero h = refl
last_get [] y d (suc k) h = absurd (omega (arith, h))
last_get (x ∷ xs) y d zero h = absurd (omega (arith, h))
last_get (x ∷ xs) y d (suc k) h = last_get xs y d k (omega (arith, h))

pub waiting_less : (wires : List Wire) (queues : List TableId) (passes rest : List (Window × Window)) (put take : Window) → passes ≡ rest ++ (put, take) ∷ [] → Waiting wires queues passes → Waiting wires queues rest
waiting_less wires queues passes rest put take is w = record {
  few = (let m = w.few in let n = ap length is ∙ length-append rest ((put, take) ∷ []) in omega (arith, m, n));
  ends = λ b d e low. sym (ap (λ l. slice_index_or l b e) is ∙ front_get rest (put, take) e b low) ∙ w.ends b d e (let n = ap length is ∙ length-append rest ((put, take) ∷ []) in omega (arith, low, n));
}

pub waiting_last : (wires : List Wire) (queues : List TableId) (passes rest : List (Window × Window)) (put take : Window) → passes ≡ rest ++ (put, take) ∷ [] → Waiting wires queues passes
    → (length rest < length wires) × ((d : TableId) → (put ≡ opened (slice_index_or queues (length rest) d) []) × (take ≡ opened (slice_index_or queues (length rest) d) []))
waiting_last wires queues passes rest put take is w =
    let n = ap length is ∙ length-append rest ((put, take) ∷ []) in let m = w.few in (
      omega (arith, n, m),
      λ d. let e = sym (ap (λ l. slice_index_or l (length rest) (put, take)) is ∙ last_get rest (put, take) (put, take) (length rest) refl) ∙ w.ends (length rest) d (put, take) (omega (arith, n)) in
          ((λ i. (e i).0), (λ i. (e i).1)),
    )

has_front : (xs : List Side) (s : Side) (b : ℕ) (w : Window) → HasEnd xs b w → HasEnd (xs ++ s ∷ []) b w
has_front xs s b w e = record {
  place = e.place;
  at = record { within = (let h = e.at.within in let n = length-append xs (s ∷ []) in omega (arith, h, n)); is = λ d. front_get xs s d e.place e.at.within ∙ e.at.is d };
}

has_last : (xs : List Side) (b : ℕ) (w : Window) → HasEnd (xs ++ side b w ∷ []) b w
has_last xs b w = record {
  place = length xs;
  at = record { within = (let n = length-append xs (side b w ∷ []) in omega (arith, n)); is = λ d. last_get xs (side b w) d (length xs) refl };
}

-- a fact of each end
abbrev Each : (ℕ → Side → Type 0) → List Side → Type 0
Each F xs = (p : ℕ) (e : Side) → p < length xs → F p (slice_index_or xs p e)

each_last : (F : Side → Type 0) (xs ys : List Side) (s : Side) → ys ≡ xs ++ s ∷ [] → ((p : ℕ) (e : Side) → p < length xs → F (slice_index_or xs p e)) → F s → (p : ℕ) (e : Side) → p < length ys → F (slice_index_or ys p e)
each_last F xs ys s is all one p e low = elim (same_or_other p (length xs)) [
  | inl end ↦ subst F (sym (ap (λ l. slice_index_or l p e) is ∙ last_get xs s e p end)) one
  | inr off ↦ (let n = ap length is ∙ length-append xs (s ∷ []) in let in_xs : p < length xs = omega (arith, low, n, off) in
      subst F (sym (ap (λ l. slice_index_or l p e) is ∙ front_get xs s e p in_xs)) (all p e in_xs))
]

module _ {S R : Type 0} where
  pub joined_skip : (wires : List Wire) (many less : ℕ) (old now : List (Task S (ThreadTaps R))) → many ≡ less + 1 → (wire_at wires less).from ≡ (wire_at wires less).to → AreJoined wires many old now → AreJoined wires less old now
  joined_skip wires many less old now is local j = record {
    many = j.many;
    same = j.same;
    puts = λ k p d e h low. (let f = j.puts k p d e h low in let g = f.0 in (omega (arith, g, is), f.1, f.2, f.3, f.4));
    takes = λ k p d e h low. (let f = j.takes k p d e h low in let g = f.0 in (omega (arith, g, is), f.1, f.2, f.3, f.4));
    opens = λ b low high apart. (elim (same_or_other b less) [
      | inl e ↦ absurd (apart (subst (λ n. (wire_at wires n).from ≡ (wire_at wires n).to) (sym e) local))
      | inr off ↦ j.opens b (omega (arith, low, is, off)) high apart
    ]);
  }

  module _ (wires : List Wire) (many b : ℕ) (old now : List (Task S (ThreadTaps R))) (is : many ≡ b + 1) (low_b : b < length wires) (apart : (wire_at wires b).from ≢ (wire_at wires b).to)
      (from_in : (wire_at wires b).from < length now) (to_in : (wire_at wires b).to < length now) (j : AreJoined wires many old now) where
    module _ (x y : Task S (ThreadTaps R)) (queue : TableId) (capacity : capacity_of queue ≡ (wire_at wires b).capacity)
        (put : (d : Task S (ThreadTaps R)) → PutAdded (slice_index_or now (wire_at wires b).from d) x (side b (opened queue []))) where
      one : List (Task S (ThreadTaps R))
      one = set now (wire_at wires b).from x

      module _ (take : (d : Task S (ThreadTaps R)) → TakeAdded (slice_index_or (set now (wire_at wires b).from x) (wire_at wires b).to d) y (side b (opened queue []))) where
        abbrev two : List (Task S (ThreadTaps R))
        two = set (set now (wire_at wires b).from x) (wire_at wires b).to y

        two_many : length two ≡ length now
        two_many = length-set (set now (wire_at wires b).from x) (wire_at wires b).to y ∙ length-set now (wire_at wires b).from x

        at_to : (d : Task S (ThreadTaps R)) → slice_index_or two (wire_at wires b).to d ≡ y
        at_to d = get_or-set_same (set now (wire_at wires b).from x) (wire_at wires b).to y d (omega (arith, to_in, length-set now (wire_at wires b).from x))

        at_from : (d : Task S (ThreadTaps R)) → slice_index_or two (wire_at wires b).from d ≡ x
        at_from d = get_or-set_other (set now (wire_at wires b).from x) (wire_at wires b).to (wire_at wires b).from y d apart ∙ get_or-set_same now (wire_at wires b).from x d from_in

        at_else : (k : ℕ) (d : Task S (ThreadTaps R)) → k ≢ (wire_at wires b).from → k ≢ (wire_at wires b).to → slice_index_or two k d ≡ slice_index_or now k d
        at_else k d n m = get_or-set_other (set now (wire_at wires b).from x) (wire_at wires b).to k y d m ∙ get_or-set_other now (wire_at wires b).from k x d n

        put_at : (d : Task S (ThreadTaps R)) → PutAdded (slice_index_or now (wire_at wires b).from d) (slice_index_or two (wire_at wires b).from d) (side b (opened queue []))
        put_at d = subst (λ t. PutAdded (slice_index_or now (wire_at wires b).from d) t (side b (opened queue []))) (sym (at_from d)) (put d)

        take_at : (d : Task S (ThreadTaps R)) → TakeAdded (slice_index_or now (wire_at wires b).to d) (slice_index_or two (wire_at wires b).to d) (side b (opened queue []))
        take_at d = subst (λ (z : Task S (ThreadTaps R) × Task S (ThreadTaps R)). TakeAdded z.0 z.1 (side b (opened queue [])))
            (λ i. (get_or-set_other now (wire_at wires b).from (wire_at wires b).to x d (λ h. apart (sym h)) i, sym (at_to d) i)) (take d)

        -- the ends that give, and those that take, of each clock
        puts_of_two : (k : ℕ) (d : Task S (ThreadTaps R)) → ((k ≡ (wire_at wires b).from) × (put_ends (slice_index_or two k d) ≡ put_ends (slice_index_or now k d) ++ side b (opened queue []) ∷ [])) ⊎ (put_ends (slice_index_or two k d) ≡ put_ends (slice_index_or now k d))
        puts_of_two k d = elim (same_or_other k (wire_at wires b).from) [
          | inl e ↦ inl (e, subst (λ n. put_ends (slice_index_or two n d) ≡ put_ends (slice_index_or now n d) ++ side b (opened queue []) ∷ []) (sym e) (put_at d).puts)
          | inr n ↦ (elim (same_or_other k (wire_at wires b).to) [
            | inl e ↦ inr (subst (λ n'. put_ends (slice_index_or two n' d) ≡ put_ends (slice_index_or now n' d)) (sym e) (take_at d).puts)
            | inr m ↦ inr (ap put_ends (at_else k d n m))
          ])
        ]

        takes_of_two : (k : ℕ) (d : Task S (ThreadTaps R)) → ((k ≡ (wire_at wires b).to) × (take_ends (slice_index_or two k d) ≡ take_ends (slice_index_or now k d) ++ side b (opened queue []) ∷ [])) ⊎ (take_ends (slice_index_or two k d) ≡ take_ends (slice_index_or now k d))
        takes_of_two k d = elim (same_or_other k (wire_at wires b).to) [
          | inl e ↦ inl (e, subst (λ n. take_ends (slice_index_or two n d) ≡ take_ends (slice_index_or now n d) ++ side b (opened queue []) ∷ []) (sym e) (take_at d).takes)
          | inr m ↦ (elim (same_or_other k (wire_at wires b).from) [
            | inl e ↦ inr (subst (λ n'. take_ends (slice_index_or two n' d) ≡ take_ends (slice_index_or now n' d)) (sym e) (put_at d).takes)
            | inr n ↦ inr (ap take_ends (at_else k d n m))
          ])
        ]

        same_two : (k : ℕ) (d : Task S (ThreadTaps R)) → SameButEnds (slice_index_or now k d) (slice_index_or two k d)
        same_two k d = elim (same_or_other k (wire_at wires b).from) [
          | inl e ↦ subst (λ n. SameButEnds (slice_index_or now n d) (slice_index_or two n d)) (sym e) (put_at d).same
          | inr n ↦ (elim (same_or_other k (wire_at wires b).to) [
            | inl e ↦ subst (λ n'. SameButEnds (slice_index_or now n' d) (slice_index_or two n' d)) (sym e) (take_at d).same
            | inr m ↦ subst (λ (t : Task S (ThreadTaps R)). SameButEnds (slice_index_or now k d) t) (sym (at_else k d n m)) (record { engine = refl; local = refl })
          ])
        ]

        puts_on : (k : ℕ) (d : Task S (ThreadTaps R)) (x' : ℕ) (w : Window) → HasEnd (put_ends (slice_index_or now k d)) x' w → HasEnd (put_ends (slice_index_or two k d)) x' w
        puts_on k d x' w e = elim (puts_of_two k d) [ inl t ↦ subst (λ l. HasEnd l x' w) (sym t.1) (has_front _ (side b (opened queue [])) x' w e) | inr t ↦ subst (λ l. HasEnd l x' w) (sym t) e ]

        takes_on : (k : ℕ) (d : Task S (ThreadTaps R)) (x' : ℕ) (w : Window) → HasEnd (take_ends (slice_index_or now k d)) x' w → HasEnd (take_ends (slice_index_or two k d)) x' w
        takes_on k d x' w e = elim (takes_of_two k d) [ inl t ↦ subst (λ l. HasEnd l x' w) (sym t.1) (has_front _ (side b (opened queue [])) x' w e) | inr t ↦ subst (λ l. HasEnd l x' w) (sym t) e ]

        pub joined_more : AreJoined wires b old two
        joined_more = record {
          many = two_many ∙ j.many;
          same = λ k d h. (let a = j.same k d h in let c = same_two k d in record { engine = c.engine ∙ a.engine; local = c.local ∙ a.local });
          puts = λ k p d e h. (
              let F : Side → Type 0 = λ s. (b ≤ s.buffer) × (s.buffer < length wires) × ((wire_at wires s.buffer).from ≡ k) × ((wire_at wires s.buffer).to ≢ k) × (s.window.answers ≡ []) in
              let before : (p' : ℕ) (e' : Side) → p' < length (put_ends (slice_index_or now k d)) → F (slice_index_or (put_ends (slice_index_or now k d)) p' e') =
              λ p' e' low'. (let f = j.puts k p' d e' h low' in let g = f.0 in (omega (arith, g, is), f.1, f.2, f.3, f.4)) in
              elim (puts_of_two k d) [
                | inl t ↦ each_last F (put_ends (slice_index_or now k d)) (put_ends (slice_index_or two k d)) (side b (opened queue [])) t.1 before (omega arith, low_b, sym t.0, (λ q. apart (sym t.0 ∙ sym q)), refl) p e
                | inr t ↦ (λ low. subst (λ l. F (slice_index_or l p e)) (sym t) (before p e (subst (λ l. p < length l) t low)))
              ]);
          takes = λ k p d e h. (
              let F : Side → Type 0 = λ s. (b ≤ s.buffer) × (s.buffer < length wires) × ((wire_at wires s.buffer).to ≡ k) × ((wire_at wires s.buffer).from ≢ k) × (s.window.answers ≡ []) in
              let before : (p' : ℕ) (e' : Side) → p' < length (take_ends (slice_index_or now k d)) → F (slice_index_or (take_ends (slice_index_or now k d)) p' e') =
              λ p' e' low'. (let f = j.takes k p' d e' h low' in let g = f.0 in (omega (arith, g, is), f.1, f.2, f.3, f.4)) in
              elim (takes_of_two k d) [
                | inl t ↦ each_last F (take_ends (slice_index_or now k d)) (take_ends (slice_index_or two k d)) (side b (opened queue [])) t.1 before (omega arith, low_b, sym t.0, (λ q. apart (q ∙ t.0)), refl) p e
                | inr t ↦ (λ low. subst (λ l. F (slice_index_or l p e)) (sym t) (before p e (subst (λ l. p < length l) t low)))
              ]);
          opens = λ x' low high apart'. (elim (same_or_other x' b) [
            | inl e ↦ subst (λ n. JoinOpen (wire_at wires n) n [] two) (sym e) (record {
              queue = queue;
              capacity = capacity;
              put = λ d. subst (λ l. HasEnd l b (opened queue [])) (sym (put_at d).puts) (has_last (put_ends (slice_index_or now (wire_at wires b).from d)) b (opened queue []));
              take = λ d. subst (λ l. HasEnd l b (opened queue [])) (sym (take_at d).takes) (has_last (take_ends (slice_index_or now (wire_at wires b).to d)) b (opened queue []));
            })
            | inr off ↦ (let o = j.opens x' (omega (arith, low, is, off)) high apart' in record {
              queue = o.queue;
              capacity = o.capacity;
              put = λ d. puts_on (wire_at wires x').from d x' (opened o.queue []) (o.put d);
              take = λ d. takes_on (wire_at wires x').to d x' (opened o.queue []) (o.take d);
            })
          ]);
        }

  -- both ends were added
  pub joined_both : (wires : List Wire) (many b : ℕ) (old now after : List (Task S (ThreadTaps R))) → many ≡ b + 1 → b < length wires → (wire_at wires b).from ≢ (wire_at wires b).to
      → (wire_at wires b).from < length now → (wire_at wires b).to < length now → AreJoined wires many old now → (queue : TableId) → capacity_of queue ≡ (wire_at wires b).capacity
      → BothAdded (wire_at wires b).from (wire_at wires b).to (side b (opened queue [])) (side b (opened queue [])) now after → AreJoined wires b old after
  joined_both wires many b old now after is low apart f t j queue capacity added =
      subst (AreJoined wires b old) (sym added.are)
      (joined_more wires many b old now is low apart f t j added.giver added.taker queue capacity added.put_added
      (λ d. subst (λ (x : Task S (ThreadTaps R)). TakeAdded x added.taker (side b (opened queue []))) (sym (get_or-set_other now (wire_at wires b).from (wire_at wires b).to added.giver d (λ h. apart (sym h)))) (added.take_added d)))

  -- the ends that a clock has are of later buffers
  pub puts_later : (wires : List Wire) (many b : ℕ) (old now : List (Task S (ThreadTaps R))) → many ≡ b + 1 → AreJoined wires many old now → (end : Side) (window : Window) → end ≡ side b window
      → (k p : ℕ) (d : Task S (ThreadTaps R)) (e : Side) → k < length now → p < length (put_ends (slice_index_or now k d)) → end.buffer < (slice_index_or (put_ends (slice_index_or now k d)) p e).buffer
  puts_later wires many b old now is j end window end_is k p d e low in_ends =
      let m = j.many in let f = (j.puts k p d e (omega (arith, low, m)) in_ends).0 in omega (arith, f, is, ap (λ (s : Side). s.buffer) end_is)

  pub takes_later : (wires : List Wire) (many b : ℕ) (old now : List (Task S (ThreadTaps R))) → many ≡ b + 1 → AreJoined wires many old now → (end : Side) (window : Window) → end ≡ side b window
      → (k p : ℕ) (d : Task S (ThreadTaps R)) (e : Side) → k < length now → p < length (take_ends (slice_index_or now k d)) → end.buffer < (slice_index_or (take_ends (slice_index_or now k d)) p e).buffer
  takes_later wires many b old now is j end window end_is k p d e low in_ends =
      let m = j.many in let f = (j.takes k p d e (omega (arith, low, m)) in_ends).0 in omega (arith, f, is, ap (λ (s : Side). s.buffer) end_is)

  pub engines_set : (now : List (Task S (ThreadTaps R))) (k : ℕ) (x : Task S (ThreadTaps R)) → k < length now → ((d : Task S (ThreadTaps R)) → x.engine ≡ (slice_index_or now k d).engine) → SameEngines now (set now k x)
  engines_set now k x within same = record {
    many = length-set now k x;
    each = λ i d h. (elim (same_or_other i k) [
      | inl e ↦ subst (λ n. (slice_index_or (set now k x) n d).engine ≡ (slice_index_or now n d).engine) (sym e) (ap (λ (t : Task S (ThreadTaps R)). t.engine) (get_or-set_same now k x d within) ∙ same d)
      | inr off ↦ ap (λ (t : Task S (ThreadTaps R)). t.engine) (get_or-set_other now k i x d off)
    ]);
  }

  pub engines_then : (xs ys zs : List (Task S (ThreadTaps R))) → SameEngines xs ys → SameEngines ys zs → SameEngines xs zs
  engines_then xs ys zs a b = record { many = b.many ∙ a.many; each = λ k d h. b.each k d (let m = a.many in omega (arith, h, m)) ∙ a.each k d h }

  -- both ends, one after the other
  pub both_added : (now : List (Task S (ThreadTaps R))) (from to : ℕ) (x y : Task S (ThreadTaps R)) (put take : Side) → from < length now → to < length now → from ≢ to
      → ((d : Task S (ThreadTaps R)) → PutAdded (slice_index_or now from d) x put) → ((d : Task S (ThreadTaps R)) → TakeAdded (slice_index_or (set now from x) to d) y take)
      → BothAdded from to put take now (set (set now from x) to y)
  both_added now from to x y put take f t apart p q = record {
    giver = x;
    taker = y;
    are = refl;
    put_added = p;
    take_added = λ d. subst (λ (z : Task S (ThreadTaps R)). TakeAdded z y take) (get_or-set_other now from to x d (λ h. apart (sym h))) (q d);
  }

  -- one buffer more is handed out
  pub join_step : (wires : List Wire) (queues : List TableId) (passes rest : List (Window × Window)) (put take : Window) (old now after : List (Task S (ThreadTaps R))) (b : ℕ) (p t : Side)
      → passes ≡ rest ++ (put, take) ∷ [] → b ≡ length rest → Waiting wires queues passes → ((n : ℕ) (d : TableId) → n < length wires → capacity_of (slice_index_or queues n d) ≡ (wire_at wires n).capacity) → (d : TableId)
      → p ≡ side b put → t ≡ side b take → ((n : ℕ) → n < length wires → (wire_at wires n).from < length now × ((wire_at wires n).to < length now)) → (wire_at wires b).from ≢ (wire_at wires b).to
      → AreJoined wires (length passes) old now → BothAdded (wire_at wires b).from (wire_at wires b).to p t now after → AreJoined wires (length rest) old after
  join_step wires queues passes rest put take old now after b p t is at w capacities d pe te places apart j added =
      let last = waiting_last wires queues passes rest put take is w in
      let queue = slice_index_or queues (length rest) d in
      let low : b < length wires = (let x = last.0 in omega (arith, x, at)) in
      let one : length passes ≡ b + 1 = ap length is ∙ length-append rest ((put, take) ∷ []) ∙ ap (λ n. n + 1) (sym at) in
      let ends : BothAdded (wire_at wires b).from (wire_at wires b).to (side b (opened queue [])) (side b (opened queue [])) now after =
      subst (λ (z : Side × Side). BothAdded (wire_at wires b).from (wire_at wires b).to z.0 z.1 now after) (λ i. ((pe ∙ ap (side b) (last.1 d).0) i, (te ∙ ap (side b) (last.1 d).1) i)) added in
      subst (λ n. AreJoined wires n old after) at
      (joined_both wires (length passes) b old now after one low apart (places b low).0 (places b low).1 j queue (ap (λ n. capacity_of (slice_index_or queues n d)) (sym at) ∙ capacities b d low) ends)
