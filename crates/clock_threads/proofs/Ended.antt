-- The windows of the buffers with both ends in one clock are closed one after another.
use Rattle.std.proofs.Common.{◌≡◌, ◌≢◌, ◌⊎◌, ℕ, ◌<◌, ◌≤◌, ◌+◌, List, length, get_or, set, slice_index_or, sym, refl, ap, ◌∙◌, subst, arith, inl, inr, get_or-set_same, get_or-set_other, length-set}
use Rattle.frame_core.specs.Calls.{Call}
use Rattle.buffer_ends.specs.Local.{LocalBuffer, closed}
use Rattle.buffer_ends.specs.Sides.{Side}
use Rattle.buffer_ends.specs.Ends.{ListsStand, Has}
use Rattle.buffer_ends.specs.declared.thread_taps.ThreadTaps.{ThreadTaps}
use Rattle.clock_threads.specs.declared.task.Task.{Task}
use Rattle.clock_threads.specs.declared.wires.Wire.{Wire}
use Rattle.clock_threads.specs.Wires.{wire_at}
use Rattle.clock_threads.specs.Ends.{puts_of as put_ends, takes_of as take_ends}
use Rattle.clock_threads.specs.Records.{AllEndedTasks, EndedTask, IsOwn, ListClosed, SameEngines}
use Rattle.clock_threads.proofs.Sets.{same_or_other}

module _ {S R : Type 0} (wires : List Wire) where
  -- the lists of the own buffers below `below` were closed, and the others are as they were
  pub record EndedUpto (below : ℕ) (first now : List (Task S (ThreadTaps R))) : Type 0 where
    pub many : length now ≡ length first
    pub each : (k : ℕ) (d : Task S (ThreadTaps R)) → k < length first → EndedTask wires below k (slice_index_or first k d) (slice_index_or now k d)
    pub todo : (k b : ℕ) (d : Task S (ThreadTaps R)) (e : LocalBuffer) → k < length first → below ≤ b
        → slice_index_or (slice_index_or now k d).taps.local b e ≡ slice_index_or (slice_index_or first k d).taps.local b e

  pub ended_none : (first : List (Task S (ThreadTaps R))) → EndedUpto 0 first first
  ended_none first = record {
    many = refl;
    each = λ k d h. record { engine = refl; puts = refl; takes = refl; many = refl; own = λ b e low own. absurd (omega (arith, low)); others = λ b e not_own. refl; lists = λ calls s. s };
    todo = λ k b d e h high. refl;
  }

  pub ended_skip : (below : ℕ) (first now : List (Task S (ThreadTaps R))) → (wire_at wires below).from ≢ (wire_at wires below).to → EndedUpto below first now → EndedUpto (below + 1) first now
  ended_skip below first now apart u = record {
    many = u.many;
    each = λ k d h. (let t = u.each k d h in record {
      engine = t.engine;
      puts = t.puts;
      takes = t.takes;
      many = t.many;
      own = λ b e low own. (elim (same_or_other b below) [
        | inl is ↦ absurd (apart (subst (λ n. (wire_at wires n).from ≡ (wire_at wires n).to) is (own.0 ∙ sym own.1)))
        | inr off ↦ t.own b e (omega (arith, low, off)) own
      ]);
      others = t.others;
      lists = t.lists;
    });
    todo = λ k b d e h high. u.todo k b d e h (omega (arith, high));
  }

  -- the list of an own buffer more
  module _ (below place : ℕ) (old now new : Task S (ThreadTaps R)) (own_here : IsOwn wires place below) (within : below < length now.taps.local) (t : EndedTask wires below place old now)
      (todo : (e : LocalBuffer) → slice_index_or now.taps.local below e ≡ slice_index_or old.taps.local below e) (c : ListClosed below now new) where
    list_here : (e : LocalBuffer) → slice_index_or new.taps.local below e ≡ closed (slice_index_or old.taps.local below e)
    list_here e = ap (λ l. get_or l below e) (c.local e) ∙ get_or-set_same now.taps.local below (closed (get_or now.taps.local below e)) e within ∙ ap closed (todo e)

    pub list_else : (b : ℕ) (e : LocalBuffer) → b ≢ below → slice_index_or new.taps.local b e ≡ slice_index_or now.taps.local b e
    list_else b e off = ap (λ l. get_or l b e) (c.local e) ∙ get_or-set_other now.taps.local below b (closed (get_or now.taps.local below e)) e off

    lists_on : (calls : List Call) → ListsStand (λ n. Has (put_ends old) n ⊎ Has (take_ends old) n) old.taps.local calls → ListsStand (λ n. Has (put_ends old) n ⊎ Has (take_ends old) n) new.taps.local calls
    lists_on calls s =
        subst (λ (z : List Side × List Side). ListsStand (λ n. Has z.0 n ⊎ Has z.1 n) now.taps.local calls → ListsStand (λ n. Has z.0 n ⊎ Has z.1 n) new.taps.local calls) (λ i. (t.puts i, t.takes i)) (c.lists calls) (t.lists calls s)

    pub list_more : LocalBuffer → EndedTask wires (below + 1) place old new
    list_more some = record {
      engine = c.engine ∙ t.engine;
      puts = c.puts ∙ t.puts;
      takes = c.takes ∙ t.takes;
      many = ap length (c.local some) ∙ length-set now.taps.local below (closed (get_or now.taps.local below some)) ∙ t.many;
      own = λ b e low own. (elim (same_or_other b below) [
        | inl is ↦ subst (λ n. slice_index_or new.taps.local n e ≡ closed (slice_index_or old.taps.local n e)) (sym is) (list_here e)
        | inr off ↦ list_else b e off ∙ t.own b e (omega (arith, low, off)) own
      ]);
      others = λ b e not_own. (let off : b ≢ below = λ is. not_own (subst (IsOwn wires place) (sym is) own_here) in list_else b e off ∙ t.others b e not_own);
      lists = lists_on;
    }

  module _ (below : ℕ) (first now : List (Task S (ThreadTaps R))) (new : Task S (ThreadTaps R)) (u : EndedUpto below first now) (own : (wire_at wires below).from ≡ (wire_at wires below).to)
      (inside : (wire_at wires below).from < length now) where
    abbrev place : ℕ
    place = (wire_at wires below).from

    -- what holds of the task at the place, and of each other one as it was
    place_or_else : (P : ℕ → Task S (ThreadTaps R) → Type 0) (k : ℕ) (d : Task S (ThreadTaps R)) → P place new → (k ≢ place → P k (slice_index_or now k d)) → P k (slice_index_or (set now place new) k d)
    place_or_else P k d here there = elim (same_or_other k place) [
      | inl is ↦ subst (λ n. P n (slice_index_or (set now place new) n d)) (sym is) (subst (P place) (sym (get_or-set_same now place new d inside)) here)
      | inr off ↦ subst (P k) (sym (get_or-set_other now place k new d off)) (there off)
    ]

    in_first : place < length first
    in_first = let m = u.many in omega (arith, inside, m)

    pub ended_engines : ((d : Task S (ThreadTaps R)) → new.engine ≡ (slice_index_or now place d).engine) → SameEngines first (set now place new)
    ended_engines e = record {
      many = length-set now place new ∙ u.many;
      each = λ k d h. place_or_else (λ n x. x.engine ≡ (slice_index_or first n d).engine) k d (e d ∙ (u.each place d in_first).engine) (λ off. (u.each k d h).engine);
    }

    pub ended_more : ((d : Task S (ThreadTaps R)) → below < length (slice_index_or now place d).taps.local) → ((d : Task S (ThreadTaps R)) → ListClosed below (slice_index_or now place d) new) → LocalBuffer
        → EndedUpto (below + 1) first (set now place new)
    ended_more within c some = record {
      many = length-set now place new ∙ u.many;
      each = λ k d h. place_or_else (λ n x. EndedTask wires (below + 1) n (slice_index_or first n d) x) k d
          (list_more below place (slice_index_or first place d) (slice_index_or now place d) new (refl, sym own) (within d) (u.each place d in_first) (λ e. u.todo place below d e in_first (omega arith)) (c d) some)
          (λ off. let t = u.each k d h in record {
            engine = t.engine;
            puts = t.puts;
            takes = t.takes;
            many = t.many;
            own = λ b e low is_own. (elim (same_or_other b below) [
              | inl is ↦ absurd (off (sym is_own.0 ∙ ap (λ n. (wire_at wires n).from) is))
              | inr apart ↦ t.own b e (omega (arith, low, apart)) is_own
            ]);
            others = t.others;
            lists = t.lists;
          });
      todo = λ k b d e h high. place_or_else (λ n x. slice_index_or x.taps.local b e ≡ slice_index_or (slice_index_or first n d).taps.local b e) k d
          (list_else below place (slice_index_or first place d) (slice_index_or now place d) new (refl, sym own) (within d) (u.each place d in_first) (λ f. u.todo place below d f in_first (omega arith)) (c d) b e (λ is. omega (arith, high, is))
          ∙ u.todo place b d e in_first (omega (arith, high)))
          (λ off. u.todo k b d e h (omega (arith, high)));
    }

  pub ended_all : (below : ℕ) (first now : List (Task S (ThreadTaps R))) → length wires ≤ below → EndedUpto below first now → AllEndedTasks wires first now
  ended_all below first now high u = record {
    many = u.many;
    each = λ k d h. (let t = u.each k d h in record {
      engine = t.engine;
      puts = t.puts;
      takes = t.takes;
      many = t.many;
      own = λ b e low own. t.own b e (omega (arith, low, high)) own;
      others = t.others;
      lists = t.lists;
    });
  }

  pub ended_same : (below : ℕ) (first now : List (Task S (ThreadTaps R))) → EndedUpto below first now → SameEngines first now
  ended_same below first now u = record { many = u.many; each = λ k d h. (u.each k d h).engine }

  -- no capacity changes
  pub ended_capacity : (k : ℕ) (old new : Task S (ThreadTaps R)) → EndedTask wires (length wires) k old new → (b : ℕ) (d : LocalBuffer) → b < length wires
      → (slice_index_or new.taps.local b d).capacity ≡ (slice_index_or old.taps.local b d).capacity
  ended_capacity k old new t b d low = elim (same_or_other (wire_at wires b).from k) [
    | inr off ↦ ap (λ (l : LocalBuffer). l.capacity) (t.others b d (λ own. off own.0))
    | inl from ↦ (elim (same_or_other (wire_at wires b).to k) [
      | inr off ↦ ap (λ (l : LocalBuffer). l.capacity) (t.others b d (λ own. off own.1))
      | inl to ↦ ap (λ (l : LocalBuffer). l.capacity) (t.own b d low (from, to))
    ])
  ]
